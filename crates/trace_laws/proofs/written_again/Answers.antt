use Rattle.trace_laws.proofs.WritingAgain.{written-again}
use Rattle.trace_laws.proofs.written_again.Goals as goal

pub returns : goal.returns
returns c = written-again
