use borrow.Author.Tests.{eq-eqb, ne_eqb}
use Rattle.store_rules.specs.Store.{bad_contents}
use Rattle.gap_quarantine.proofs.recording.bad_contents.Goals as goal

pub returns-then-contents-ne0 : goal.returns-then-contents-ne0
unfolding bad_contents
returns-then-contents-ne0 c = rw (ne_eqb _ _ c.if-contents-ne0.true)

pub returns-else-contents-ne0 : goal.returns-else-contents-ne0
unfolding bad_contents
returns-else-contents-ne0 c = rw (eq-eqb _ _ c.if-contents-ne0.false)
