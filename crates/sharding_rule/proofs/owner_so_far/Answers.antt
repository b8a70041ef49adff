use Rattle.sharding_rule.proofs.Theorem.{owner-so-far}
use Rattle.sharding_rule.proofs.owner_so_far.Goals as goal

pub returns : goal.returns
returns c = owner-so-far
