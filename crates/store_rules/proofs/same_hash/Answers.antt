use mathlib.Core.Path.{sym, ◌∙◌}
use Rattle.store_rules.proofs.Seen.{equal-is}
use Rattle.store_rules.proofs.same_hash.Goals as goal

pub returns : goal.returns
returns c = c.eq.ensures ∙ sym (equal-is c.args.a c.args.b)
