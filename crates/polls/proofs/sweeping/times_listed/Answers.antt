use native.Mathlib.Omega.{arith}
use mathlib.Core.Path.{sym, ◌∙◌}
use Rattle.polls.proofs.ListedSenders.{times-begin, first-differs, wide, time-more, no-time, times-end}
use Rattle.polls.proofs.sweeping.times_listed.Goals as goal
use Rattle.polls.proofs.sweeping.times_listed.Goals.{else-address-sender-via-then-address-sender+else-same_bytes, else-address-sender-via-else-address-sender}

pub loop-sender-init : goal.loop-sender-init
loop-sender-init c =
    let i = c.chunks_exact-sender-items in
    rw c.into_iter-sender-iterator.ensures.into_iter_gives (times-begin c.args.address c.args.senders.now i.result i.ensures.rest i.ensures.size)

pub loop-sender-preserved-then-same_bytes : goal.loop-sender-preserved-then-same_bytes
loop-sender-preserved-then-same_bytes c =
    let l = c.loop-sender in
    time-more c.args.address c.args.senders.now l.sender-iterator c.next.new.self l.times l.invariant c.in-Some.sender c.in-Some.ensures.steps (sym c.if-same_bytes.ensures)

pub loop-sender-preserved : goal.loop-sender-preserved
loop-sender-preserved c =
    let l = c.loop-sender in
    let on = no-time c.args.address c.args.senders.now l.sender-iterator c.next.new.self l.times l.invariant c.in-Some.sender c.in-Some.ensures.steps in
    let w = wide c.args.address c.args.senders.now l.sender-iterator c.next.new.self l.times l.invariant c.in-Some.sender c.in-Some.ensures.steps in
    elim c.else-address-sender.branch [
      | else-address-sender-via-then-address-sender+else-same_bytes x ↦ on (sym x.same_bytes.ensures ∙ x.if-same_bytes.false)
      | else-address-sender-via-else-address-sender x ↦ on (first-differs c.args.address c.in-Some.sender.now (omega arith) (omega (arith, w)) x.if-address-sender.false)
    ]

pub overflow_add-times : goal.overflow_add-times
overflow_add-times c = omega (arith, c.loop-sender.invariant.few)

pub returns : goal.returns
returns c =
    let l = c.loop-sender in
    (times-end c.args.address c.args.senders.now l.sender-iterator c.next.new.self l.times l.invariant c.in-None.ensures.steps, omega (arith, l.invariant.few))
