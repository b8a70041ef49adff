use Rattle.journal_laws.proofs.Refusals.{places}
use Rattle.journal_laws.proofs.places.Goals as goal

pub returns : goal.returns
returns c = places
