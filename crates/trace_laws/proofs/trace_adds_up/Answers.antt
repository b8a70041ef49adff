use Rattle.trace_laws.proofs.Totals.{trace-adds-up}
use Rattle.trace_laws.proofs.trace_adds_up.Goals as goal

pub returns : goal.returns
returns c = trace-adds-up
