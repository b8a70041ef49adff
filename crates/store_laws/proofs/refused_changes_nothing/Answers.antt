use Rattle.store_laws.proofs.Refusals.{refused-changes-nothing}
use Rattle.store_laws.proofs.refused_changes_nothing.Goals as goal

pub returns : goal.returns
returns c = refused-changes-nothing
