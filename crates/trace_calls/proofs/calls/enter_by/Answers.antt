use Rattle.trace_calls.proofs.Making.{entered-call}
use Rattle.trace_calls.proofs.calls.enter_by.Goals as goal

pub returns : goal.returns
returns c = λ slice hashes. entered-call c.args.q _ _ c.args.size c.enter_tentative-r.result slice hashes (rw (c.array_at.ensures, c.array_at-2.ensures) at c.enter_tentative-r.ensures)
