use mathlib.Core.Path.{◌≡◌}
use Rattle.guards.specs.Recording.{bodies_in}
use Rattle.store_rules.specs.View.{held_view}
use Rattle.store_bench.specs.Loads.{guarded_by}
use Rattle.store_bench.proofs.stores.guarded_store.Given as goal

abbrev pub invariant-loop-n : goal.invariant-loop-n
invariant-loop-n l = held_view (bodies_in l.bodies) l.h ≡ guarded_by l.n
