use Rattle.journal_laws.proofs.Refusals.{restores}
use Rattle.journal_laws.proofs.restore_numbers.Goals as goal

pub returns : goal.returns
returns c = restores
