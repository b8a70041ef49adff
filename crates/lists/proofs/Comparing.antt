-- The definitions beside what the library's `==`, `cmp` and `contains` give of slices.
use Prim.Native.Nat.{ℕ}
use native.Mathlib.Omega.{arith}
use mathlib.Core.Path.{◌≡◌, refl, ap}
use mathlib.Core.Bool.{Bool, ◌&&◌, ◌||◌}
use mathlib.Core.List.{List, [], ◌∷◌}
use lib.Dec.{eqb}
use Rattle.std.proofs.Common.{Ordering}
use lib.Pointwise.{pointwise}
use Rattle.std.proofs.lemmas.Bool.Decides.{nat_tests}
use Rattle.std.proofs.lemmas.Cmp.{same_from_slice_cmp}
use Rattle.std.specs.Cmp.Lexicographic.{slice_cmp}
use Rattle.std.specs.List.{list_any}
use Rattle.std.specs.Ordering.{nat_cmp, is_le}
use Rattle.lists.specs.Bytes.{Bytes, eq_bytes, le_bytes}
use Rattle.lists.specs.Lists.{is_in}

pub eq-pointwise : (a b : Bytes) → pointwise eqb a b ≡ eq_bytes a b
unfolding eq_bytes
eq-pointwise [] [] = refl
eq-pointwise [] (y ∷ ys) = refl
eq-pointwise (x ∷ xs) [] = refl
eq-pointwise (x ∷ xs) (y ∷ ys) = ap (λ (t : Bool). eqb x y && t) (eq-pointwise xs ys)

pub le-compared : (a b : Bytes) (o : Ordering) → o ≡ slice_cmp nat_cmp a b → is_le o ≡ le_bytes a b
unfolding le_bytes
le-compared = same_from_slice_cmp nat_cmp is_le le_bytes refl (λ _ _. refl) (λ _ _. refl) (λ x y xs ys o h. grind (arith, nat_tests))

pub in-any : (n : ℕ) (l : List ℕ) → list_any (λ m. eqb m n) l ≡ is_in n l
unfolding is_in
in-any n [] = refl
in-any n (m ∷ ms) = ap (λ (t : Bool). eqb m n || t) (in-any n ms)
