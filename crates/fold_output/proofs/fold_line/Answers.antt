use mathlib.Core.Path.{◌∙◌}
use borrow.Author.Tests.{eq-eqb, ne_eqb}
use Rattle.fold_output.specs.Lines.{fold_line}
use Rattle.fold_output.proofs.fold_line.Goals as goal

pub returns-then-code-eq0 : goal.returns-then-code-eq0
unfolding fold_line
returns-then-code-eq0 c = c.totals_line.ensures ∙ rw (eq-eqb _ 0 c.if-code-eq0.true)

pub returns-else-code-eq0 : goal.returns-else-code-eq0
unfolding fold_line
returns-else-code-eq0 c = c.refusal_line.ensures ∙ rw (ne_eqb _ 0 c.if-code-eq0.false)
