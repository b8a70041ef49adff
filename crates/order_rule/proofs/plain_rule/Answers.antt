use Rattle.order_rule.proofs.Sweeps.{plain-is-special}
use Rattle.order_rule.proofs.plain_rule.Goals as goal

pub returns : goal.returns
returns c = plain-is-special
