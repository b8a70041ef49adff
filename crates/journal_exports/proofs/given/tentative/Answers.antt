use mathlib.Core.Path.{ap}
use Rattle.std.specs.Prelude.{Some}
use borrow.Author.Tests.{ne_eqb}
use Rattle.journal_record.specs.Records.{Tentative}
use Rattle.journal_exports.specs.Writers.{is_tentative, given_tentative}
use Rattle.journal_exports.proofs.given.tentative.Goals as goal

pub returns-then-kind-eq0 : goal.returns-then-kind-eq0
unfolding given_tentative
returns-then-kind-eq0 c = rw c.if-kind-eq0.true

pub consumed-requires : goal.consumed-requires
unfolding is_tentative
consumed-requires c = rw (ne_eqb c.args.kind 0 c.if-kind-eq0.false) at c.requires

pub returns : goal.returns
unfolding given_tentative
returns c = rw (ne_eqb c.args.kind 0 c.if-kind-eq0.false) (ap {A = Tentative} Some c.consumed.ensures)
