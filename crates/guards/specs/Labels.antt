-- The labels of the guards: the first one of a hash.
use Rattle.std.specs.Prelude.{ℕ, zero, suc, Bool, ◌&&◌, cond, List, [], ◌∷◌}
use Rattle.lists.specs.Bytes.{Bytes, eq_bytes}
use Rattle.store_rules.specs.View.{GuardLabel}

-- a live label of the hash
abbrev pub is_live : Bytes → GuardLabel → Bool
is_live h l = l.live && eq_bytes l.hash h

-- the place of the first live label of the hash, or the number of labels
unfoldable pub label_at : Bytes → List GuardLabel → ℕ
label_at h [] = zero
label_at h (l ∷ ls) = cond (is_live h l) zero (suc (label_at h ls))
