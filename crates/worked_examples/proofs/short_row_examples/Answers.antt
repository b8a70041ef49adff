use Rattle.worked_examples.proofs.Computed.{short-rows}
use Rattle.worked_examples.proofs.short_row_examples.Goals as goal

pub returns : goal.returns
returns c = short-rows
