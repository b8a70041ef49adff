-- The laws of a part of a list: what `take` and `drop` keep, and what stands in a part of a part.
use Prim.Native.Nat.{ℕ, zero, suc, ◌+◌, ◌-◌, ◌<◌, ◌≤◌}
use native.Mathlib.Omega.{arith}
use mathlib.Core.Path.{◌≡◌, ◌∙◌}
use mathlib.Core.List.{List, [], ◌∷◌}
use lib.ListN.{length, take, drop, get_or, length-drop}
use lib.Seq.{take-nil, take_all, take-take, drop-drop, get_or-take, get_or-drop}
use Rattle.lists.specs.Lists.{Each}

module _ {A : Type 0} where
  pub drop-take : (w m : ℕ) (l : List A) → drop w (take m l) ≡ take (m - w) (drop w l)
  drop-take zero m l = let e : m - 0 ≡ m = omega arith in rw e
  drop-take (suc w) zero l = let e : 0 - suc w ≡ 0 = omega arith in rw e
  drop-take (suc w) (suc m) [] = rw (take-nil {A = A} (suc m - suc w))
  drop-take (suc w) (suc m) (x ∷ l) = let e : suc m - suc w ≡ m - w = omega arith in rw e (drop-take w m l)

  pub each_take : (P : A → Type 0) (n : ℕ) (l : List A) → Each P l → Each P (take n l)
  each_take P zero l h = tt
  each_take P (suc n) [] h = tt
  each_take P (suc n) (x ∷ l) h = (h.0, each_take P n l h.1)

  pub each-drop : (P : A → Type 0) (n : ℕ) (l : List A) → Each P l → Each P (drop n l)
  each-drop P zero l h = h
  each-drop P (suc n) [] h = tt
  each-drop P (suc n) (x ∷ l) h = each-drop P n l h.1

  pub each-get_d : (P : A → Type 0) (d : A) (l : List A) → ((i : ℕ) → P (get_or l i d)) → Each P l
  each-get_d P d [] h = tt
  each-get_d P d (x ∷ l) h = (h zero, each-get_d P d l (λ i. h (suc i)))

  -- a part that runs to the end
  pub part-rest : (l : List A) (at : ℕ) → take (length l - at) (drop at l) ≡ drop at l
  part-rest l at = take_all (length l - at) (drop at l) (rw (length-drop at l) (omega arith))

  module _ (l : List A) (at w : ℕ) where
    -- the first element of a part
    pub part-first : (d : A) → 0 < w → get_or (take w (drop at l)) 0 d ≡ get_or l at d
    part-first d h = let e : at + 0 ≡ at = omega arith in get_or-take w (drop at l) 0 d h ∙ rw e at (get_or-drop at l 0 d)

    -- the rest of a part
    pub part-drop : (k : ℕ) → drop k (take w (drop at l)) ≡ take (w - k) (drop (at + k) l)
    part-drop k = rw (drop-take k w (drop at l), drop-drop k at l)

    -- a part of a part
    pub part-part : (k n : ℕ) → k + n ≤ w → take n (drop k (take w (drop at l))) ≡ take n (drop (at + k) l)
    part-part k n h = rw (part-drop k, take-take n (w - k) (drop (at + k) l) (omega arith))
