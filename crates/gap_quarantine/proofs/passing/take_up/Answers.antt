use native.Mathlib.Omega.{arith}
use mathlib.Core.Path.{◌≡◌, refl, sym, ◌∙◌}
use lib.ListN.{length}
use Rattle.lists.proofs.Compacting.{clamp, long}
use Rattle.gap_quarantine.proofs.PassSteps.{has_room}
use Rattle.gap_quarantine.proofs.PassTurns.{begins, skipped, room, revived-one, left_one, passes}
use borrow.Author.Rules.{rules}
use Rattle.gap_quarantine.proofs.passing.take_up.Goals as goal
use Rattle.gap_quarantine.proofs.passing.take_up.Goals.{in-Reorganised, in_default}

pub loop-i-init : goal.loop-i-init
loop-i-init c =
    let a = c.args in
    let whole : length a.h.now.entries ≡ 64 = search (rules, long) in
    let r = has_room _ _ _ _ c.requires in (
      begins a.s c.min-len.result a.h.now.guards a.h.now.entries a.h.now.labels _ a.numbers.now a.bytes.now (omega arith)
          (rw (c.min-len.ensures, clamp a.h.now.len 64 a.h.now.entries whole) refl) r.0 r.1 whole,
      refl,
    )

pub loop-i-preserved-then-not-selects : goal.loop-i-preserved-then-not-selects
loop-i-preserved-then-not-selects c =
    let l = c.loop-i in
    (skipped c.args.s _ _ _ _ _ _ _ _ _ _ _ _ _ _ l.invariant.0 _ c.loop-i-test.true (sym c.selects.ensures ∙ c.if-not-selects.true), l.invariant.1)

pub put_entry-requires-clause-numbers_fit : goal.put_entry-requires-clause-numbers_fit
put_entry-requires-clause-numbers_fit c =
    (room c.args.s _ _ _ _ _ _ _ _ _ _ _ _ _ _ c.loop-i.invariant.0 _ c.loop-i-test.true (sym c.selects.ensures ∙ c.if-not-selects.false)).1

pub put_entry-requires-clause-bytes_fit : goal.put_entry-requires-clause-bytes_fit
put_entry-requires-clause-bytes_fit c =
    (room c.args.s _ _ _ _ _ _ _ _ _ _ _ _ _ _ c.loop-i.invariant.0 _ c.loop-i-test.true (sym c.selects.ensures ∙ c.if-not-selects.false)).2

pub loop-i-preserved : goal.loop-i-preserved
loop-i-preserved c =
    let l = c.loop-i in
    let a = c.args in
    let sel = sym c.selects.ensures ∙ c.if-not-selects.false in
    let p = c.put_entry.ensures in
    elim c.match-s.branch [
      | in-Reorganised w ↦ rw (w.h-is, w.w-is) (revived-one a.s _ _ _ _ _ _ _ _ _ _ _ _ _ _ l.invariant.0 _ c.loop-i-test.true sel c.as_listed-f.result c.as_listed-f.ensures _ (λ b. rw l.invariant.1 at (c.drop_guard.ensures b)) _ _ (p.numbers, p.bytes, p.sized) _ _ w.in-Reorganised.is, l.invariant.1)
      | in_default w ↦ rw (w.h-is, w.w-is) (left_one a.s _ _ _ _ _ _ _ _ _ _ _ _ _ _ l.invariant.0 _ c.loop-i-test.true sel c.as_listed-f.result c.as_listed-f.ensures _ (λ b. rw l.invariant.1 at (c.drop_guard.ensures b)) _ _ (p.numbers, p.bytes, p.sized) w.in_default.not-Reorganised, l.invariant.1)
    ]

pub returns : goal.returns
returns c =
    let a = c.args in
    let l = c.loop-i in
    passes a.h.now l.h a.s a.numbers.now a.bytes.now _ _ c.min-len.result l.n l.w l.i c.min-len.ensures (search (rules, long)) c.requires l.invariant.0 c.loop-i-test.false l.invariant.1
