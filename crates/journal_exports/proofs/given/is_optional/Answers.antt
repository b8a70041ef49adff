use borrow.Author.Tests.{eqb-true, eqb-false}
use lib.ListN.{length}
use mathlib.Core.Path.{sym, ◌∙◌}
use Rattle.journal_exports.proofs.Arguments.{optional-none, optional-some}
use Rattle.journal_exports.proofs.given.is_optional.Goals as goal

pub returns-then-is_empty : goal.returns-then-is_empty
returns-then-is_empty c = c.if-is_empty.true ∙ optional-none c.args.width c.args.bytes.now (eqb-true (length c.args.bytes.now) 0 (sym c.if-is_empty.ensures))

pub returns-else-is_empty : goal.returns-else-is_empty
returns-else-is_empty c = optional-some c.args.width c.args.bytes.now (eqb-false (length c.args.bytes.now) 0 (sym c.if-is_empty.ensures))
