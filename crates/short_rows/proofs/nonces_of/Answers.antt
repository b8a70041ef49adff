use Prim.Native.Nat.{◌+◌, ◌^◌}
use native.Mathlib.Omega.{arith}
use mathlib.Core.Path.{refl, sym, ◌∙◌}
use borrow.Author.Tests.{ltb-true}
use Rattle.short_rows.proofs.Reading.{read_none, read-nonce, read-beyond, read-unset, read_all}
use Rattle.short_rows.proofs.nonces_of.Goals as goal
use Rattle.short_rows.proofs.nonces_of.Goals.{then-lowest-eq1+then-is_nonce, then-lowest-eq1+else-is_nonce, else-lowest-eq1}

pub loop-place-init : goal.loop-place-init
loop-place-init c = read_none c.args.expected c.args.mark

pub overflow_add-at : goal.overflow_add-at
overflow_add-at c = omega (arith, ltb-true (c.args.expected + c.loop-place.place) (2 ^ 64) (sym c.is_nonce.ensures ∙ c.if-is_nonce.true))

pub bounds-at-count : goal.bounds-at-count
bounds-at-count c = omega (arith, c.loop-place.invariant.gathers.within, c.loop-place.invariant.gathers.whole, c.loop-place-test.true)

pub overflow_add-count : goal.overflow_add-count
overflow_add-count c = omega (arith, c.loop-place.invariant.gathers.within, c.loop-place-test.true)

pub loop-place-preserved : goal.loop-place-preserved
loop-place-preserved c =
    let l = c.loop-place in
    elim c.if-lowest-eq1.branch [
      | then-lowest-eq1+then-is_nonce w ↦ rw (w.at-is, w.count-is) (read-nonce c.args.expected c.args.mark l.at l.count l.rest l.place l.invariant c.loop-place-test.true w.if-lowest-eq1.true (sym w.is_nonce.ensures ∙ w.if-is_nonce.true) _ _ refl refl)
      | then-lowest-eq1+else-is_nonce w ↦ rw (w.at-is, w.count-is) (read-beyond c.args.expected c.args.mark l.at l.count l.rest l.place l.invariant c.loop-place-test.true w.if-lowest-eq1.true (sym w.is_nonce.ensures ∙ w.if-is_nonce.false))
      | else-lowest-eq1 w ↦ rw (w.at-is, w.count-is) (read-unset c.args.expected c.args.mark l.at l.count l.rest l.place l.invariant c.loop-place-test.true w.if-lowest-eq1.false)
    ]

pub returns : goal.returns
returns c =
    read_all c.args.expected c.args.mark c.loop-place.at c.loop-place.count c.loop-place.rest c.loop-place.place c.loop-place.invariant c.loop-place-test.false
