use Prim.Native.Nat.{◌+◌, ◌≤◌, ◌<◌}
use native.Mathlib.Omega.{arith}
use mathlib.Core.Path.{◌≡◌, ◌∙◌}
use lib.ListN.{length, take, drop, set}
use borrow.Author.Rules.{rules}
use Rattle.lists.proofs.Parts.{part-rest}
use Rattle.gap_quarantine.specs.Promises.{view_of}
use Rattle.trace_format.specs.Reading.{read_call}
use Rattle.trace_run.specs.Promises.{numbers_listed}
use Rattle.trace_run.proofs.Calling.{IsRead, is-read, not_read, call-leads, list-fits, few-after, few-below}
use Rattle.trace_run.proofs.Running.{one_more, Going, begins, ran, done, stops, goes}
use Rattle.trace_run.proofs.run_calls.Goals as goal
use Rattle.trace_run.proofs.run_calls.Goals.{In-loop-at, In-Ok, After-counts_after-counts}

-- there is room for the line of a call
room : (c : In-loop-at) → c.loop-at.count < length c.loop-at.lines
room c = omega (arith, c.loop-at.invariant.0.few, c.loop-at.invariant.0.front.same, c.loop-at-test.true, c.requires.0, c.requires.1)

-- the call that stands here
here : (c : In-Ok) →
    IsRead c.loop-at.q (drop c.loop-at.at c.args.trace.now) c.loop-at.numbers c.loop-at.hashes (read_call (drop c.loop-at.at c.args.trace.now)) c.in-Ok.called
    c.make_call-made.result.store c.make_call-made.new.numbers c.make_call-made.new.hashes
here c =
    let l = c.loop-at in
    let m = c.make_call-made in
    is-read l.q (drop l.at c.args.trace.now) l.numbers l.hashes _ _ m.result (read_call (drop l.at c.args.trace.now)) c.in-Ok.called c.in-Ok.is
    (rw (part-rest c.args.trace.now l.at) at m.ensures)

-- what it lists is in the slice
listed : (c : In-Ok) → length c.make_call-made.new.numbers ≡ 1216 → numbers_listed c.in-Ok.called.reply ≤ 1216
listed c e = list-fits c.loop-at.q _ _ _ _ _ _ _ _ c.loop-at.invariant.1 c.loop-at.invariant.2 (here c) e

-- the loop goes on after it, given that there was room for its line
going : (c : After-counts_after-counts) → c.loop-at.count < length c.loop-at.lines → numbers_listed c.in-Ok.called.reply ≤ 1216 →
    IsRead c.loop-at.q (drop c.loop-at.at c.args.trace.now) c.loop-at.numbers c.loop-at.hashes (read_call (drop c.loop-at.at c.args.trace.now)) c.in-Ok.called
    c.make_call-made.result.store c.make_call-made.new.numbers c.make_call-made.new.hashes →
    (0 < c.in-Ok.called.size)
    × Going c.args.trace.now c.args.lines.now (view_of c.make_call-made.result.store) c.counts_after-counts.result (set c.loop-at.lines c.loop-at.count c.number_of.result) (c.loop-at.count + 1) (c.loop-at.at + c.in-Ok.called.size)
going c there fits r =
    let l = c.loop-at in
    let lead = call-leads l.q _ _ _ _ _ _ _ _ l.invariant.1 l.invariant.2 r l.counts in
    goes c.args.trace.now c.args.lines.now (view_of l.q) l.counts l.lines l.count l.at l.invariant.0 c.loop-at-test.true c.number_of.result c.counts_after-counts.result (view_of c.make_call-made.result.store)
    r.c r.rest r.is _ r.made.size (c.number_of.ensures ∙ lead.0) (c.counts_after-counts.ensures ∙ lead.1) lead.2
    (rw c.counts_after-counts.ensures (few-after l.counts l.count l.invariant.0.sums _ c.in-Ok.called.reply _ fits)) there

pub loop-at-init : goal.loop-at-init
loop-at-init c = (begins c.args.trace.now c.args.lines.now (view_of c.new-q.result) c.none-counts.result c.new-q.ensures c.none-counts.ensures c.requires.0, search rules, search rules)

pub counts_after-counts-requires : goal.counts_after-counts-requires
counts_after-counts-requires c =
    let l = c.loop-at in
    let e : length c.make_call-made.new.numbers ≡ 1216 = search rules in
    let room-here = room (goal.at.counts_after-counts-requires c).In-loop-at in
    rw e (listed (goal.at.counts_after-counts-requires c).In-Ok e, few-below l.counts l.count l.invariant.0.sums (omega (arith, room-here, l.invariant.0.front.same, c.requires.1)))

pub returns-in_default : goal.returns-in_default
returns-in_default c =
    let bs = c.args.trace.now in
    let lines = c.args.lines.now in
    let l = c.loop-at in
    let m = c.make_call-made in
    let n = not_read l.q (drop l.at bs) l.numbers l.hashes _ _ m.result (read_call (drop l.at bs)) c.in_default.field-0 c.in_default.is (rw (part-rest bs l.at) at m.ensures) in
    ran bs lines _ _ _ _ _ _ _ c.ended.ensures
    (one_more lines l.lines l.count (take l.count l.lines) c.number.result l.invariant.0.front (room (goal.at.returns-in_default c).In-loop-at))
    (rw (c.number.ensures, n.1) (stops bs lines (view_of l.q) l.counts l.lines l.count l.at l.invariant.0 c.loop-at-test.true n.0))

pub loop-at-smaller : goal.loop-at-smaller
loop-at-smaller c =
    let e : length c.make_call-made.new.numbers ≡ 1216 = search rules in
    let k = (goal.at.loop-at-smaller c).In-Ok in
    let goes = going (goal.at.loop-at-smaller c).After-counts_after-counts (room (goal.at.loop-at-smaller c).In-loop-at) (listed k e) (here k) in
    omega (arith, goes.0, goes.1.within, c.loop-at-test.true)

pub loop-at-preserved : goal.loop-at-preserved
loop-at-preserved c =
    let e : length c.make_call-made.new.numbers ≡ 1216 = search rules in
    let k = (goal.at.loop-at-preserved c).In-Ok in
    let goes = going (goal.at.loop-at-preserved c).After-counts_after-counts (room (goal.at.loop-at-preserved c).In-loop-at) (listed k e) (here k) in
    (goes.1, e, search rules)

pub returns : goal.returns
returns c =
    let bs = c.args.trace.now in
    let lines = c.args.lines.now in
    let l = c.loop-at in
    ran bs lines _ _ _ _ _ _ _ c.ended-2.ensures l.invariant.0.front (done bs lines (view_of l.q) l.counts l.lines l.count l.at l.invariant.0 c.loop-at-test.false)
