use Rattle.trace_laws.proofs.ReadingBack.{reads-back}
use Rattle.trace_laws.proofs.reads_back.Goals as goal

pub returns : goal.returns
returns c = reads-back
