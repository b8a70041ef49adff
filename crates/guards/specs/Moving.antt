-- What the parts of recording a guard make: how many labels are live, and a body written in its place.
use Rattle.std.specs.Prelude.{ℕ, zero, suc, ◌≡◌, cond, List, [], ◌∷◌, eqb, length, get_or}
use Rattle.store_rules.specs.Frames.{GuardKind, reparked, unhydratable}
use Rattle.store_rules.specs.View.{GuardLabel, GuardBody, Bodies}

-- how many labels are live
unfoldable pub live_count : List GuardLabel → ℕ
live_count [] = zero
live_count (l ∷ ls) = cond l.live (suc (live_count ls)) (live_count ls)

-- the four numbers that stand before the predecessors
pub record IsHead (kind : GuardKind) (preds hashes : ℕ) (r : List ℕ) : Type 0 where
  pub sized : length r ≡ 4
  pub kind-is : cond (eqb (get_or r 0 0) 1) (reparked (get_or r 1 0)) unhydratable ≡ kind
  pub preds-is : get_or r 2 0 ≡ preds
  pub hashes-is : get_or r 3 0 ≡ hashes

-- the body in place k is this one, and the others stay
pub record BodyPut (k : ℕ) (b : GuardBody) (before after : Bodies) : Type 0 where
  pub here : after k ≡ b
  pub elsewhere : (j : ℕ) → (j ≡ k → ⊥) → after j ≡ before j
