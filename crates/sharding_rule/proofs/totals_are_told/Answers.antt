use Rattle.sharding_rule.proofs.Totals.{totals-are-told}
use Rattle.sharding_rule.proofs.totals_are_told.Goals as goal

pub returns : goal.returns
returns c = totals-are-told
