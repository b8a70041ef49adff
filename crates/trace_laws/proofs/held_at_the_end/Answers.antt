use Rattle.trace_laws.proofs.Totals.{held-at-the-end}
use Rattle.trace_laws.proofs.held_at_the_end.Goals as goal

pub returns : goal.returns
returns c = held-at-the-end
