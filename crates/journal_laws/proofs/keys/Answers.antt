use Rattle.journal_laws.proofs.KeyOrder.{keys}
use Rattle.journal_laws.proofs.keys.Goals as goal

pub returns : goal.returns
returns c = keys
