use Rattle.store_laws.proofs.Refusals.{refused-by-place}
use Rattle.store_laws.proofs.refused_by_place.Goals as goal

pub returns : goal.returns
returns c = refused-by-place
