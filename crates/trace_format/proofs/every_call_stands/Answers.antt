use Rattle.trace_format.proofs.Standing.{every-call-stands}
use Rattle.trace_format.proofs.every_call_stands.Goals as goal

pub returns : goal.returns
returns c = every-call-stands
