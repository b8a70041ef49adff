use Rattle.sharding_rule.proofs.Splitting.{split-is-read}
use Rattle.sharding_rule.proofs.split_is_read.Goals as goal

pub returns : goal.returns
returns c = split-is-read
