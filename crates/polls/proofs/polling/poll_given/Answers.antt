use mathlib.Core.Path.{refl}
use Rattle.polls.proofs.polling.poll_given.Goals as goal

pub returns : goal.returns
returns c = c.poll_inner-answer.ensures _ refl
