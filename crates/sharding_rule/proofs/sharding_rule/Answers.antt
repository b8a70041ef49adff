use Rattle.sharding_rule.proofs.Theorem.{sharding-rule}
use Rattle.sharding_rule.proofs.sharding_rule.Goals as goal

pub returns : goal.returns
returns c = sharding-rule
