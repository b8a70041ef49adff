use Rattle.order_rule.proofs.Sweeps.{order-rule}
use Rattle.order_rule.proofs.order_rule.Goals as goal

pub returns : goal.returns
returns c = order-rule
