use Rattle.trace_laws.proofs.Breaking.{every-break}
use Rattle.trace_laws.proofs.every_break.Goals as goal

pub returns : goal.returns
returns c = every-break
