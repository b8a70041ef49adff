use Rattle.journal_laws.proofs.Refold.{refolding}
use Rattle.journal_laws.proofs.refolding.Goals as goal

pub returns : goal.returns
returns c = refolding
