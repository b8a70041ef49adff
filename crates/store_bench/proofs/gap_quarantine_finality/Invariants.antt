use mathlib.Core.Path.{◌≡◌}
use Rattle.store_rules.specs.Store.{empty}
use Rattle.store_bench.specs.Loads.{alone}
use Rattle.store_bench.proofs.gap_quarantine_finality.Given as goal

abbrev pub invariant-loop : goal.invariant-loop
invariant-loop l = (l.seen ≡ l.counter) × (alone l.h ≡ empty)
