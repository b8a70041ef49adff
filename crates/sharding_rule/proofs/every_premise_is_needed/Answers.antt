use Rattle.sharding_rule.proofs.Premises.{premises}
use Rattle.sharding_rule.proofs.every_premise_is_needed.Goals as goal

pub returns : goal.returns
returns c = premises
