-- A list without sweeps runs as its calls do.
use mathlib.Core.Path.{◌≡◌, refl}
use mathlib.Core.List.{List, [], ◌∷◌, map}
use Rattle.store_rules.specs.Store.{Store, Request, step, run}
use Rattle.store_rules.specs.Sweeps.{single, step_item, run_items}

pub single-run : (s : Store) (qs : List Request) → run_items s (map single qs) ≡ run s qs
unfolding run_items step_item run
single-run s [] = refl
single-run s (q ∷ qs) = single-run (step s q).0 qs
