use Rattle.journal_laws.proofs.Refusals.{write-codes}
use Rattle.journal_laws.proofs.write_codes.Goals as goal

pub returns : goal.returns
returns c = write-codes
