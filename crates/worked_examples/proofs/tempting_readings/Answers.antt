use Rattle.worked_examples.proofs.Computed.{tempting}
use Rattle.worked_examples.proofs.tempting_readings.Goals as goal

pub returns : goal.returns
returns c = tempting
