-- Sums over shards: the elements of a list that pass a test are, in number, those of its parts together (`count-parts`).
use Prim.Native.Nat.{ℕ, zero, suc, ◌+◌, ◌≤◌}
use native.Mathlib.Omega.{arith}
use mathlib.Core.Path.{◌≡◌, refl, sym, ap, ap₂, ◌∙◌}
use mathlib.Core.Bool.{Bool, true, false, cond}
use mathlib.Core.List.{List, [], ◌∷◌}
use lib.Dec.{eqb}
use lib.ListN.{length}
use borrow.Author.Tests.{eqb-true, eqb-false, ne_eqb}
use Rattle.lists.specs.Lists.{keep}
use Rattle.lists.proofs.Keeping.{keep-each, each_of}
use Rattle.sharding_rule.specs.Merging.{gather}
use Rattle.sharding_rule.proofs.Merging.{gather-same}

pub gather-plus : (last : ℕ) (f g : ℕ → ℕ) → gather ◌+◌ last (λ n. f n + g n) ≡ gather ◌+◌ last f + gather ◌+◌ last g
unfolding gather
gather-plus zero f g = refl
gather-plus (suc last) f g = let ih = gather-plus last f g in omega arith

pub gather-zero : (last : ℕ) → gather ◌+◌ last (λ n. 0) ≡ 0
unfolding gather
gather-zero zero = refl
gather-zero (suc last) = let ih = gather-zero last in omega arith

-- what one shard has alone
pub gather-one : (last m x : ℕ) → m ≤ last → gather ◌+◌ last (λ n. cond (eqb m n) x 0) ≡ x
unfolding gather
gather-one zero m x l = go (eqb m 0) refl
  where
    go : (b : Bool) → eqb m 0 ≡ b → cond b x 0 ≡ x
    go true e = refl
    go false e = absurd (eqb-false m 0 e (omega arith))
gather-one (suc last) m x l = go (eqb m (suc last)) refl (gather-one last m x)
  where
    others : ℕ
    others = gather ◌+◌ last (λ n. cond (eqb m n) x 0)

    none_before : m ≡ suc last → others ≡ 0
    none_before e = gather-same ◌+◌ last (λ n. cond (eqb m n) x 0) (λ n. 0) (λ n k. ap (λ (b : Bool). cond b x 0) (ne_eqb m n (λ q. omega arith))) ∙ gather-zero last

    go : (b : Bool) → eqb m (suc last) ≡ b → (m ≤ last → others ≡ x) → others + cond b x 0 ≡ x
    go true e ih = let z = none_before (eqb-true m (suc last) e) in omega arith
    go false e ih = let y = ih (below (eqb-false m (suc last) e)) in omega arith
      where
        below : (m ≡ suc last → ⊥) → m ≤ last
        below k = omega arith

module _ {A : Type 0} (last : ℕ) (shard_of : A → ℕ) (bound : (x : A) → shard_of x ≤ last) where
  -- a shard's part of a list
  abbrev PartOf : List A → ℕ → List A
  PartOf xs n = keep (λ x. eqb (shard_of x) n) xs

  pub count-parts : (t : A → Bool) (xs : List A) → length (keep t xs) ≡ gather ◌+◌ last (λ n. length (keep t (PartOf xs n)))
  unfolding keep
  count-parts t [] = sym (gather-zero last)
  count-parts t (x ∷ xs) =
      let n : ℕ = cond (t x) 1 0 in
      weigh (t x) (keep t xs) ∙ ap₂ ◌+◌ (sym (gather-one last (shard_of x) n (bound x))) (count-parts t xs)
      ∙ sym (gather-plus last (λ m. cond (eqb (shard_of x) m) n 0) (λ m. length (keep t (PartOf xs m))))
      ∙ gather-same ◌+◌ last (λ m. cond (eqb (shard_of x) m) n 0 + length (keep t (PartOf xs m))) (λ m. length (keep t (PartOf (x ∷ xs) m)))
      (λ m l. heard (eqb (shard_of x) m) (PartOf xs m))
    where
      weigh : (b : Bool) (ys : List A) → length (cond b (x ∷ ys) ys) ≡ cond b 1 0 + length ys
      weigh true ys = omega arith
      weigh false ys = omega arith

      heard : (b : Bool) (ys : List A) → cond b (cond (t x) 1 0) 0 + length (keep t ys) ≡ length (keep t (cond b (x ∷ ys) ys))
      heard true ys = sym (weigh (t x) (keep t ys))
      heard false ys = omega arith

  pub length-parts : (xs : List A) → length xs ≡ gather ◌+◌ last (λ n. length (PartOf xs n))
  length-parts xs =
      ap (λ (l : List A). length l) (sym (every xs)) ∙ count-parts (λ x. true) xs
      ∙ gather-same ◌+◌ last (λ n. length (keep (λ x. true) (PartOf xs n))) (λ n. length (PartOf xs n)) (λ n l. ap (λ (l : List A). length l) (every (PartOf xs n)))
    where
      every : (ys : List A) → keep (λ x. true) ys ≡ ys
      every ys = keep-each (λ x. true) ys (each_of (λ x. true ≡ true) ys (λ x m. refl))
