use Prim.Native.Nat.{◌+◌, ◌^◌}
use native.Mathlib.Omega.{arith}
use mathlib.Core.Path.{sym, ◌∙◌}
use lib.Count.{count_trailing_zeros, trailing_le}
use borrow.Author.Tests.{ltb-true}
use Rattle.short_rows.proofs.Reading.{first-of-none, first-beyond, first-is}
use Rattle.short_rows.proofs.first_nonce.Goals as goal

pub returns-then-mark-eq0 : goal.returns-then-mark-eq0
returns-then-mark-eq0 c = rw c.if-mark-eq0.true (first-of-none c.args.expected)

pub overflow_cast-place : goal.overflow_cast-place
overflow_cast-place c = omega (arith, trailing_le 16 c.args.mark)

pub returns-then-not-is_nonce : goal.returns-then-not-is_nonce
returns-then-not-is_nonce c = first-beyond c.args.expected c.args.mark c.ranges.mark.fits c.if-mark-eq0.false (sym c.is_nonce.ensures ∙ c.if-not-is_nonce.true)

pub overflow_add-result : goal.overflow_add-result
overflow_add-result c = omega (arith, ltb-true (c.args.expected + count_trailing_zeros 16 c.args.mark) (2 ^ 64) (sym c.is_nonce.ensures ∙ c.if-not-is_nonce.false))

pub returns : goal.returns
returns c = first-is c.args.expected c.args.mark c.ranges.mark.fits c.if-mark-eq0.false (sym c.is_nonce.ensures ∙ c.if-not-is_nonce.false)
