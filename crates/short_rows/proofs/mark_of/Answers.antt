use Prim.Native.Nat.{◌<◌}
use native.Mathlib.Numerals.{add-one}
use native.Mathlib.Omega.{arith}
use mathlib.Core.Path.{sym, ◌∙◌}
use lib.ListN.{length, take, get_or}
use lib.Seq.{take-suc, take_all}
use Rattle.short_rows.proofs.Marking.{none-marked, mark-below, mark-beyond, mark-within}
use Rattle.short_rows.proofs.mark_of.Goals as goal
use Rattle.short_rows.proofs.mark_of.Goals.{then-expected-nonce+then-place-lt16, then-expected-nonce+else-place-lt16, else-expected-nonce}

pub loop-nonce-init : goal.loop-nonce-init
loop-nonce-init c = (sym (none-marked c.args.expected))

pub loop-nonce-preserved : goal.loop-nonce-preserved
loop-nonce-preserved c =
    let l = c.args.nonces.now in
    let i = c.loop-nonce.nonce-index in
    let n = get_or l i 0 in
    let h : i < length l = c.loop-nonce-test.true in
    rw (add-one i, take-suc l i 0 h)
    (elim c.if-expected-nonce.branch [
      | then-expected-nonce+then-place-lt16 w ↦ w.mark-is ∙ rw c.loop-nonce.invariant (sym (mark-within c.args.expected n (take i l) w.if-expected-nonce.true w.if-place-lt16.true))
      | then-expected-nonce+else-place-lt16 w ↦ w.mark-is ∙ c.loop-nonce.invariant ∙ sym (mark-beyond c.args.expected n (take i l) (omega (arith, w.if-expected-nonce.true, w.if-place-lt16.false)))
      | else-expected-nonce w ↦ w.mark-is ∙ c.loop-nonce.invariant ∙ sym (mark-below c.args.expected n (take i l) (omega (arith, w.if-expected-nonce.false)))
    ])

pub returns : goal.returns
returns c =
    let l = c.args.nonces.now in
    c.loop-nonce.invariant ∙ rw (take_all c.loop-nonce.nonce-index l (omega (arith, c.loop-nonce-test.false)))
