use borrow.Author.Rules.{rules}
use mathlib.Core.Path.{sym, ap, ◌∙◌}
use borrow.Author.Tests.{eqb-true, eqb-false}
use lib.ListN.{length}
use Rattle.std.specs.Prelude.{Some}
use Rattle.lists.specs.Bytes.{Bytes}
use Rattle.journal_exports.proofs.Arguments.{optional-long, given-none, given-some}
use Rattle.journal_exports.proofs.given.optional.Goals as goal

pub returns-then-is_empty : goal.returns-then-is_empty
returns-then-is_empty g c = given-none c.args.bytes.now (eqb-true (length c.args.bytes.now) 0 (sym c.if-is_empty.ensures))

pub array-requires : goal.array-requires
array-requires g c = (search rules, optional-long g.row.N c.args.bytes.now (eqb-false (length c.args.bytes.now) 0 (sym c.if-is_empty.ensures)) c.requires)

pub returns : goal.returns
returns g c = ap {A = Bytes} Some c.array.ensures ∙ given-some c.args.bytes.now (eqb-false (length c.args.bytes.now) 0 (sym c.if-is_empty.ensures))
