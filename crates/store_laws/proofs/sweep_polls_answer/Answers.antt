use Rattle.store_laws.proofs.Refusals.{sweep-polls-answer}
use Rattle.store_laws.proofs.sweep_polls_answer.Goals as goal

pub returns : goal.returns
returns c = sweep-polls-answer
