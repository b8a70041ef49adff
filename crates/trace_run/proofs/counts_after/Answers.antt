use Rattle.trace_run.proofs.counts_after.Goals as goal

pub count-requires : goal.count-requires
count-requires c = rw c.in-Answered.is at c.requires

pub returns-in-Answered : goal.returns-in-Answered
returns-in-Answered c = rw c.in-Answered.is c.count.ensures
