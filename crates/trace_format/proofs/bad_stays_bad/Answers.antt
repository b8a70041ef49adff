use Rattle.trace_format.proofs.Standing.{bad-stays-bad}
use Rattle.trace_format.proofs.bad_stays_bad.Goals as goal

pub returns : goal.returns
returns c = bad-stays-bad
