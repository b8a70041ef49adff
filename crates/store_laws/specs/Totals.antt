-- The totals add up (request 2027-07): what was held at the start and was accepted is held at the end, or was rescued, is dead or was evicted.
use Rattle.std.specs.Prelude.{ℕ, ◌+◌, ◌≡◌, List, length}
use Rattle.store_rules.specs.Store.{Store, empty}
use Rattle.store_rules.specs.Sweeps.{Item}
use Rattle.store_rules.specs.Totals.{Totals, totals}

-- held, rescued, dead and evicted together
unfoldable pub accounted_for : Totals → ℕ
accounted_for t = t.held + t.rescued + t.dead + t.evicted

-- from any store
abbrev pub TotalsAddUpFrom : Type 0
TotalsAddUpFrom = (s : Store) (is : List Item) → length s.entries + (totals s is).accepted ≡ accounted_for (totals s is)

-- from an empty one
abbrev pub TotalsAddUp : Type 0
TotalsAddUp = (is : List Item) → (totals empty is).accepted ≡ accounted_for (totals empty is)
