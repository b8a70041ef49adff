use Rattle.order_rule.proofs.Sweeps.{order-rule-from}
use Rattle.order_rule.proofs.order_rule_from.Goals as goal

pub returns : goal.returns
returns c = order-rule-from
