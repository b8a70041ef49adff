use Rattle.sharding_rule.proofs.Splitting.{splitting-rule}
use Rattle.sharding_rule.proofs.splitting_rule.Goals as goal

pub returns : goal.returns
returns c = splitting-rule
