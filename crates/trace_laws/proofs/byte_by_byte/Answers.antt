use Rattle.trace_laws.proofs.Examples.{examples}
use Rattle.trace_laws.proofs.byte_by_byte.Goals as goal

pub returns : goal.returns
returns c = examples
