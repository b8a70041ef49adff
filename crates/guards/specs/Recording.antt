-- What recording a guard makes of the labels and the bodies.
use Rattle.std.specs.Prelude.{ℕ, ◌≡◌, true, false, List, take, Result, Ok, Err}
use Rattle.lists.specs.Bytes.{Bytes}
use Rattle.refusal.specs.declared.Refusal.{Refusal}
use Rattle.refusal.specs.declared.Refusal.TheVariants.{GuardsFull}
use Rattle.store_rules.specs.Frames.{Guard}
use Rattle.store_rules.specs.Store.{put_guard, no_room_for}
use Rattle.store_rules.specs.View.{Bodies, bodies_of, labels_of, live_of}
use Rattle.guards.specs.declared.bodies.GuardBodies.{GuardBodies}

-- the body in each place
abbrev pub bodies_in : GuardBodies → Bodies
bodies_in b = bodies_of b.numbers b.contents

-- the guards that stand among so many
abbrev pub standing : ℕ → Bytes → Bodies → List Guard
standing guards labels bodies = live_of (take guards (labels_of labels)) bodies

-- The guard is put among those that stand, of which there are so many places then; or there is no room for it, and nothing changes.
abbrev pub Records : Guard → ℕ → Bytes → GuardBodies → Result ℕ Refusal → Bytes → GuardBodies → Type 0
Records g guards labels bodies (Ok n) labels' bodies' =
    (no_room_for g.hash (standing guards labels (bodies_in bodies)) ≡ false)
    × (standing n labels' (bodies_in bodies') ≡ put_guard g (standing guards labels (bodies_in bodies)))
Records g guards labels bodies (Err x) labels' bodies' =
    (x ≡ GuardsFull)
    × (no_room_for g.hash (standing guards labels (bodies_in bodies)) ≡ true)
    × (labels' ≡ labels) × (bodies' ≡ bodies)
