use Rattle.worked_examples.proofs.Computed.{sweeps}
use Rattle.worked_examples.proofs.sweep_examples.Goals as goal

pub returns : goal.returns
returns c = sweeps
