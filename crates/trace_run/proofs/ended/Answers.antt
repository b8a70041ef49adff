use Rattle.trace_run.proofs.ended.Goals as goal

pub returns : goal.returns
returns c = rw (← c.len.ensures, ← c.with_held.ensures)
