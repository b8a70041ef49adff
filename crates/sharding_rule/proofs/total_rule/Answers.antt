use Rattle.sharding_rule.proofs.Readings.{total-rule}
use Rattle.sharding_rule.proofs.total_rule.Goals as goal

pub returns : goal.returns
returns c = total-rule
