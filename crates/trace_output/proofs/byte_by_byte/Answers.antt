use Rattle.trace_output.proofs.Examples.{examples}
use Rattle.trace_output.proofs.byte_by_byte.Goals as goal

pub returns : goal.returns
returns c = examples
