use Rattle.std.proofs.Common.{sym, ◌∙◌}
use Rattle.store_rules.proofs.Searches.{found-none, found-some}
use Rattle.store_rules.specs.Searching.{sought}
use Rattle.store_rules.proofs.lookup.first_sought.Goals as goal

pub returns-in_err-at-clause-found : goal.returns-in_err-at-clause-found
returns-in_err-at-clause-found c = rw c.from_residual.ensures (found-none (sought c.args.hash c.args.tracked) c.args.entries.now (sym c.in_err-at.was ∙ c.place_of.ensures))

pub returns-clause-found : goal.returns-clause-found
returns-clause-found c = rw c.count_of-place.ensures (found-some (sought c.args.hash c.args.tracked) c.args.entries.now c.in_ok-at.at _ (sym c.in_ok-at.was ∙ c.place_of.ensures))
