use Rattle.store_laws.proofs.Refusals.{refused-by-inputs}
use Rattle.store_laws.proofs.refused_by_inputs.Goals as goal

pub returns : goal.returns
returns c = refused-by-inputs
