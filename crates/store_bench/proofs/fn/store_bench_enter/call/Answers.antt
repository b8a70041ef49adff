use mathlib.Core.Path.{◌≡◌, refl, ap, ◌∙◌}
use mir.Val.{bool_byte}
use Rattle.std.specs.Prelude.{Option, Some, None}
use Rattle.std.specs.Option.{is_some}
use Rattle.store_rules.specs.declared.lookup.Whose.{Whose}
use Rattle.gap_quarantine.specs.Promises.{heard_entering}
use Rattle.store_bench.specs.Loads.{no_bodies, counted}
use Rattle.store_bench.proofs.Performing.{tells}
use Rattle.store_bench.proofs.fn.store_bench_enter.call.Goals as goal

-- 1 for an entry that is found
found_is_one : (w : Option Whose) → bool_byte (is_some w) ≡ counted (heard_entering w)
found_is_one (Some w) = refl
found_is_one None = refl

pub returns : goal.returns
returns c = ap bool_byte c.is_some.ensures ∙ found_is_one c.enter_tentative-r.result.whose ∙ tells _ (c.enter_tentative-r.ensures no_bodies) ∙ rw c.numbered.ensures
