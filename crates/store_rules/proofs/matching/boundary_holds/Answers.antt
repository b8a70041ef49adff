use Rattle.store_rules.specs.Poll.{boundary_holds}
use borrow.Author.Rules.{rules}
use Rattle.store_rules.proofs.matching.boundary_holds.Goals as goal

pub returns-in-Reparked : goal.returns-in-Reparked
unfolding boundary_holds
returns-in-Reparked c = rw c.in-Reparked.is

pub returns-in-Unhydratable : goal.returns-in-Unhydratable
unfolding boundary_holds
returns-in-Unhydratable c = search rules
