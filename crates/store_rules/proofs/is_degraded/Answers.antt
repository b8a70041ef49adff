use borrow.Author.Tests.{eq-eqb, ne_eqb}
use Rattle.store_rules.specs.Frames.{degraded}
use Rattle.store_rules.proofs.is_degraded.Goals as goal

pub returns-then-f-eq0 : goal.returns-then-f-eq0
unfolding degraded
returns-then-f-eq0 c = rw (eq-eqb _ _ c.if-f-eq0.true)

pub returns-else-f-eq0 : goal.returns-else-f-eq0
unfolding degraded
returns-else-f-eq0 c = rw (ne_eqb _ _ c.if-f-eq0.false)
