use Rattle.trace_run.proofs.Calling.{ok-number}
use Rattle.trace_run.proofs.number_said.Goals as goal

pub returns-in-Ok : goal.returns-in-Ok
returns-in-Ok c = rw c.in-Ok.is (ok-number c.in-Ok.field-0)
