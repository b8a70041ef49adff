-- The laws of `Pairwise`.
use mathlib.Core.Bool.{Bool, true, false, cond}
use mathlib.Core.List.{List, [], ◌∷◌, ◌++◌}
use Rattle.lists.specs.Lists.{keep, Each, Pairwise}
use Rattle.lists.proofs.Elements.{each_keep, each-join}

module _ {A : Type 0} (R : A → A → Type 0) where
  pub pairwise-keep : (p : A → Bool) (xs : List A) → Pairwise R xs → Pairwise R (keep p xs)
  unfolding keep
  pairwise-keep p [] h = tt
  pairwise-keep p (x ∷ xs) h = go (p x) (pairwise-keep p xs h.1)
    where
      go : (b : Bool) → Pairwise R (keep p xs) → Pairwise R (cond b (x ∷ keep p xs) (keep p xs))
      go true t = (each_keep p (R x) xs h.0, t)
      go false t = t

  -- one more at the end
  pub pairwise-last : (xs : List A) (y : A) → Pairwise R xs → Each (λ x. R x y) xs → Pairwise R (xs ++ y ∷ [])
  pairwise-last [] y h k = (tt, tt)
  pairwise-last (x ∷ xs) y h k = (each-join (R x) xs (y ∷ []) h.0 (k.0, tt), pairwise-last xs y h.1 k.1)
