use Rattle.worked_examples.proofs.Computed.{starred}
use Rattle.worked_examples.proofs.starred_examples.Goals as goal

pub returns : goal.returns
returns c = starred
