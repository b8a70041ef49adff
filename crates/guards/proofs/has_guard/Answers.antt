use mathlib.Core.Path.{◌∙◌}
use Rattle.guards.proofs.Holding.{is-guarded}
use Rattle.guards.proofs.has_guard.Goals as goal

pub returns : goal.returns
returns c bodies = c.is_some.ensures ∙ is-guarded c.args.hash c.args.h.now.guards c.args.h.now.labels bodies _ c.find_guard.ensures
