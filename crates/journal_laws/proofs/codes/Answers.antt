use Rattle.journal_laws.proofs.Refusals.{codes}
use Rattle.journal_laws.proofs.codes.Goals as goal

pub returns : goal.returns
returns c = codes
