use native.Mathlib.Omega.{arith}
use lib.ListN.{length-take}
use borrow.Author.Tests.{eq-eqb, ne_eqb}
use Rattle.guards.proofs.is_live.Goals as goal

pub slice_bounds-same_bytes-end : goal.slice_bounds-same_bytes-end
slice_bounds-same_bytes-end c = simp length-take (omega arith)

pub returns-then-label-eq1 : goal.returns-then-label-eq1
returns-then-label-eq1 c = rw (eq-eqb _ 1 c.if-label-eq1.true) c.same_bytes.ensures

pub returns-else-label-eq1 : goal.returns-else-label-eq1
returns-else-label-eq1 c = rw (ne_eqb _ 1 c.if-label-eq1.false)
