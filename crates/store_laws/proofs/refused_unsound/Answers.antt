use Rattle.store_laws.proofs.Refusals.{refused-unsound}
use Rattle.store_laws.proofs.refused_unsound.Goals as goal

pub returns : goal.returns
returns c = refused-unsound
