use mathlib.Core.Path.{◌≡◌}
use Rattle.store_rules.specs.View.{Bodies, held_view}
use Rattle.store_bench.specs.Loads.{filled}
use Rattle.store_bench.proofs.stores.filled.Given as goal

abbrev pub invariant-loop-n : goal.invariant-loop-n
invariant-loop-n l = (bodies : Bodies) → held_view bodies l.h ≡ filled l.apart l.n
