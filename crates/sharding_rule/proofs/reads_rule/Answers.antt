use Rattle.sharding_rule.proofs.Readings.{reads-rule}
use Rattle.sharding_rule.proofs.reads_rule.Goals as goal

pub returns : goal.returns
returns c = reads-rule
