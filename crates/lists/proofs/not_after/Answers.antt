use mathlib.Core.Path.{◌∙◌}
use Rattle.lists.proofs.Comparing.{le-compared}
use Rattle.lists.proofs.not_after.Goals as goal

pub returns : goal.returns
returns c = c.is_le.ensures ∙ le-compared c.args.a.now c.args.b.now c.cmp.result c.cmp.ensures
