-- Sums: of what is left of a list, and of a table by rows and by columns.
use Prim.Native.Nat.{ℕ, ◌+◌, ◌-◌, ◌≤◌, ◌<◌}
use native.Mathlib.Numerals.{add-one}
use native.Mathlib.Omega.{arith}
use mathlib.Core.Path.{◌≡◌, refl, sym, ap, ◌∙◌}
use mathlib.Core.Bool.{Bool, true, false, cond}
use mathlib.Core.List.{List, [], ◌∷◌, map}
use lib.Dec.{eqb}
use lib.ListN.{length, drop, get_or, drop_of_length-le}
use lib.Seq.{drop-cons}
use borrow.Author.Tests.{eq-eqb, ne_eqb, eqb-true, eqb-false}
use Rattle.lists.specs.Lists.{keep, sum}

-- ---- a loop that takes each number off what is left

pub sum-turn : (l : List ℕ) (i : ℕ) → i < length l → sum (drop i l) ≡ get_or l i 0 + sum (drop (i + 1) l)
unfolding sum
sum-turn l i h = rw (add-one, drop-cons l i 0)

same_test : (a b c d : ℕ) → (a ≡ b → c ≡ d) → (c ≡ d → a ≡ b) → eqb a b ≡ eqb c d
same_test a b c d f g = go (eqb a b) refl
  where
    go : (t : Bool) → eqb a b ≡ t → t ≡ eqb c d
    go true e = sym (eq-eqb c d (f (eqb-true a b e)))
    go false e = sym (ne_eqb c d (λ q. eqb-false a b e (g q)))

module _ (l : List ℕ) (i left : ℕ) (h : i < length l) where
  pub take-off : get_or l i 0 ≤ left → eqb (sum (drop i l)) left ≡ eqb (sum (drop (i + 1) l)) (left - get_or l i 0)
  take-off b = let e = sum-turn l i h in same_test (sum (drop i l)) left (sum (drop (i + 1) l)) (left - get_or l i 0) (λ p. omega arith) (λ p. omega arith)

  pub too_much : left < get_or l i 0 → eqb (sum (drop i l)) left ≡ false
  too_much b = let e = sum-turn l i h in ne_eqb (sum (drop i l)) left (λ p. omega arith)

pub nothing_left : (l : List ℕ) (i left : ℕ) → length l ≤ i → eqb (sum (drop i l)) left ≡ eqb left 0
unfolding sum
nothing_left l i left h = rw (drop_of_length-le l h) (same_test 0 left left 0 sym sym)

-- ---- by rows and by columns

module _ {A B : Type 0} (r : A → B → Bool) where
  no-columns : (xs : List A) → sum (map (λ a. length (keep (λ b. r a b) [])) xs) ≡ 0
  unfolding sum keep
  no-columns [] = refl
  no-columns (a ∷ xs) = omega (arith, no-columns xs)

  one-column : (b : B) (ys : List B) (xs : List A) →
      sum (map (λ a. length (keep (λ x. r a x) (b ∷ ys))) xs) ≡ length (keep (λ a. r a b) xs) + sum (map (λ a. length (keep (λ x. r a x) ys)) xs)
  unfolding sum keep
  one-column b ys [] = refl
  one-column b ys (a ∷ xs) = go (r a b) (one-column b ys xs)
    where
      go : (t : Bool) →
          sum (map (λ x. length (keep (λ y. r x y) (b ∷ ys))) xs) ≡ length (keep (λ x. r x b) xs) + sum (map (λ x. length (keep (λ y. r x y) ys)) xs) →
          length (cond t (b ∷ keep (λ y. r a y) ys) (keep (λ y. r a y) ys)) + sum (map (λ x. length (keep (λ y. r x y) (b ∷ ys))) xs)
          ≡ length (cond t (a ∷ keep (λ x. r x b) xs) (keep (λ x. r x b) xs)) + (length (keep (λ y. r a y) ys) + sum (map (λ x. length (keep (λ y. r x y) ys)) xs))
      go true ih = omega arith
      go false ih = omega arith

  -- how many of the second list pass with each of the first, in all, is how many of the first pass with each of the second
  pub rows-and-columns : (xs : List A) (ys : List B) → sum (map (λ a. length (keep (λ b. r a b) ys)) xs) ≡ sum (map (λ b. length (keep (λ a. r a b) xs)) ys)
  unfolding sum
  rows-and-columns xs [] = no-columns xs
  rows-and-columns xs (b ∷ ys) = one-column b ys xs ∙ ap (λ (n : ℕ). length (keep (λ a. r a b) xs) + n) (rows-and-columns xs ys)
