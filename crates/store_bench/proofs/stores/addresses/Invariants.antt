use mathlib.Core.Path.{◌≡◌}
use Rattle.store_bench.specs.Loads.{addresses}
use Rattle.store_bench.proofs.stores.addresses.Given as goal

abbrev pub invariant-loop-n : goal.invariant-loop-n
invariant-loop-n l = l.all ≡ addresses l.n
