use mathlib.Core.Path.{◌≡◌, refl, sym, ◌∙◌}
use mathlib.Core.List.{map}
use native.Mathlib.Omega.{arith}
use lib.ListN.{length, length-map}
use Rattle.lists.specs.Lists.{keep}
use Rattle.lists.proofs.Elements.{length-keep}
use Rattle.store_rules.specs.View.{entry_of, entries_seen}
use Rattle.decisions.specs.Selections.{selected}
use Rattle.gap_quarantine.proofs.PassSteps.{short}
use Rattle.gap_quarantine.proofs.passing.pass.Goals as goal
use Rattle.gap_quarantine.proofs.passing.pass.Goals.{After-count_selected-count}

-- how many are selected of the held frames
counted : (c : After-count_selected-count) → c.count_selected-count.result ≡ length (keep (selected c.args.s) (entries_seen c.args.h.now))
counted c = c.count_selected-count.ensures ∙ rw c.frames.ensures.value refl

pub lacks_room-requires : goal.lacks_room-requires
lacks_room-requires c =
    omega (arith, c.count_selected-count.ensures, length-keep (selected c.args.s) (map entry_of c.frames.result.now), length-map c.frames.result.now entry_of, c.frames.ensures.few)

pub returns-then-lacks_room : goal.returns-then-lacks_room
returns-then-lacks_room c =
    let a = c.args in
    short a.h.now a.s a.numbers.now a.bytes.now (rw (← counted (goal.at.returns-then-lacks_room c).After-count_selected-count) (sym c.lacks_room.ensures ∙ c.if-lacks_room.true))
