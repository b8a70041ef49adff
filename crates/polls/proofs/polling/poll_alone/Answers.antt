use Rattle.polls.proofs.polling.poll_alone.Goals as goal

pub returns : goal.returns
returns c bodies = c.poll_inner-answer.ensures bodies tt
