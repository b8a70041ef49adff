use Rattle.journal_laws.proofs.Rewrite.{journal-again}
use Rattle.journal_laws.proofs.journal_again.Goals as goal

pub returns : goal.returns
returns c = journal-again
