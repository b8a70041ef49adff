use Rattle.fold_output.specs.Lines.{refusal_line}
use Rattle.console.proofs.Putting.{and_then, and-text}
use Rattle.fold_output.proofs.refusal_line.Goals as goal

pub returns : goal.returns
unfolding refusal_line
returns c = and-text _ _ _ _ _ (and_then _ _ _ _ _ c.count.ensures c.count-2.ensures) c.text.ensures
