use Rattle.store_laws.proofs.Refusals.{reading-refused}
use Rattle.store_laws.proofs.reading_refused.Goals as goal

pub returns : goal.returns
returns c = reading-refused
