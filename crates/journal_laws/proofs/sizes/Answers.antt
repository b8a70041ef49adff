use Rattle.journal_laws.proofs.Steps.{sizes}
use Rattle.journal_laws.proofs.sizes.Goals as goal

pub returns : goal.returns
returns c = sizes
