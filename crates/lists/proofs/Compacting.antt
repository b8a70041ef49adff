-- Laws of a loop that moves what stays of an array to its front, or searches it, under a map.
use Prim.Native.Nat.{ℕ, zero, suc, ◌+◌, ◌≤◌, ◌<◌, min}
use native.Mathlib.Nat.{zero-min, min-zero, suc-min-suc}
use native.Mathlib.Numerals.{add-one}
use native.Mathlib.Omega.{arith}
use mathlib.Core.Path.{◌≡◌, refl, sym, ap, ◌∙◌}
use mathlib.Core.List.{List, [], ◌∷◌, ◌++◌, map}
use lib.ListN.{length, take, drop, get_or, set, length-take, length-map, drop_of_length-le}
use lib.Seq.{take-suc-set, take-set-lt, drop-set-lt, drop-cons, get_or-take}

-- the length of an array of structs, from what owning it tells
pub long : {X Y : Type 0} (f : X → Y) (l : List X) (n : ℕ) → length (map f l) ≡ n → length l ≡ n
long f l n e = sym (length-map l f) ∙ e

module _ {A : Type 0} where
  take_min : (n : ℕ) (l : List A) → take (min n (length l)) l ≡ take n l
  take_min zero l = rw zero-min
  take_min (suc n) [] = rw min-zero
  take_min (suc n) (x ∷ xs) = rw suc-min-suc (ap {B = List A} (λ r. x ∷ r) (take_min n xs))

  -- a count past the array's end is as good as the array's length
  pub clamp : (n m : ℕ) (l : List A) → length l ≡ m → take (min n m) l ≡ take n l
  clamp n m l e = rw (← e) (take_min n l)

module _ {A B : Type 0} (f : A → B) where
  map_more : (l : List A) (v : A) → map f (l ++ (v ∷ [])) ≡ map f l ++ (f v ∷ [])
  map_more [] v = refl
  map_more (x ∷ xs) v = ap {B = List B} (λ r. f x ∷ r) (map_more xs v)

  -- one more at the front
  pub front-more : (l : List A) (w : ℕ) (v : A) → w < length l → map f (take (w + 1) (set l w v)) ≡ map f (take w l) ++ (f v ∷ [])
  front-more l w v h = rw (add-one, take-suc-set l w v h, map_more (take w l) v)

  -- what is left, by its first
  pub rest-on : (l : List A) (n i : ℕ) (d : A) → i < n → n ≤ length l → map f (drop i (take n l)) ≡ f (get_or l i d) ∷ map f (drop (i + 1) (take n l))
  rest-on l n i d h b =
      let hi : i < length (take n l) = simp length-take (omega arith) in
      rw (add-one, drop-cons (take n l) i d hi, get_or-take n l i d h)

  -- a write behind what is left does not show in it
  pub rest-kept : (l : List A) (n w i : ℕ) (v : A) → w ≤ i → i < n → map f (drop (i + 1) (take n (set l w v))) ≡ map f (drop (i + 1) (take n l))
  rest-kept l n w i v h b =
      let hn : w < n = omega arith in
      let hi : w < i + 1 = omega arith in
      rw (take-set-lt n l w v hn, drop-set-lt (i + 1) (take n l) w v hi)

  pub rest-none : (l : List A) (n i : ℕ) → n ≤ i → map f (drop i (take n l)) ≡ []
  rest-none l n i h =
      let hi : length (take n l) ≤ i = simp length-take (omega arith) in
      rw (drop_of_length-le (take n l) hi)
