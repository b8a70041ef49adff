use Rattle.journal_laws.proofs.Refold.{no-sixteen}
use Rattle.journal_laws.proofs.no_sixteen.Goals as goal

pub returns : goal.returns
returns c = no-sixteen
