use Rattle.order_rule.proofs.Owner.{same-owner}
use Rattle.order_rule.proofs.same_owners.Goals as goal

pub returns : goal.returns
returns c = same-owner
