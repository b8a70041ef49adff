use Rattle.sharding_rule.proofs.Once.{merged-once}
use Rattle.sharding_rule.proofs.merged_once.Goals as goal

pub returns : goal.returns
returns c = merged-once
