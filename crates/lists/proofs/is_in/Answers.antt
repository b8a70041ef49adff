use mathlib.Core.Path.{◌∙◌}
use Rattle.lists.proofs.Comparing.{in-any}
use Rattle.lists.proofs.is_in.Goals as goal

pub returns : goal.returns
returns c = c.contains.ensures.value ∙ in-any c.args.n c.args.list.now
