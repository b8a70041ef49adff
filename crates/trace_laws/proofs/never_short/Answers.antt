use Rattle.trace_laws.proofs.LongEnough.{never-short}
use Rattle.trace_laws.proofs.never_short.Goals as goal

pub returns : goal.returns
returns c = never-short
