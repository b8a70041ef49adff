use Rattle.sharding_rule.proofs.Theorem.{sharding-rule-told}
use Rattle.sharding_rule.proofs.sharding_rule_told.Goals as goal

pub returns : goal.returns
returns c = sharding-rule-told
