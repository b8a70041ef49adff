-- A list that ascends by address is the merge of what shards keep of it (`gather-keep`).
use Prim.Native.Nat.{ℕ, zero, suc, ◌≤◌}
use native.Mathlib.Omega.{arith}
use mathlib.Core.Path.{◌≡◌, refl, sym, ap, ap₂, ◌∙◌, fun_ext}
use mathlib.Core.Bool.{Bool, true, false, ◌||◌, cond}
use mathlib.Core.List.{List, [], ◌∷◌}
use lib.Dec.{eqb, leb}
use borrow.Author.Tests.{eqb-true, eqb-false, ne_eqb, leb-true, leb-false, le-leb, lt-leb}
use Rattle.lists.specs.Bytes.{Bytes, le_bytes}
use Rattle.lists.specs.Lists.{keep, Each}
use Rattle.lists.proofs.ByteOrder.{le_bytes-antisym, clash}
use Rattle.lists.proofs.Keeping.{keep-each, each_of}
use Rattle.lists.proofs.Elements.{each_keep, each-kept}
use Rattle.order_rule.proofs.Listed.{Ascends}
use Rattle.sharding_rule.specs.Merging.{into, merge, gather}

-- ---- the merge of two parts

module _ {A : Type 0} (at : A → Bytes) where
  -- what passes a test of its address
  abbrev pub By : (Bytes → Bool) → List A → List A
  By p xs = keep (λ x. p (at x)) xs

  first-left : (x : A) (rest : List A → List A) (ys : List A) → Each (λ y. le_bytes (at x) (at y) ≡ true) ys → into at x rest ys ≡ x ∷ rest ys
  unfolding into
  first-left x rest [] h = refl
  first-left x rest (y ∷ ys) h = rw h.0

  first-right : (y : A) (xs ys : List A) → Each (λ x. le_bytes (at x) (at y) ≡ false) xs → merge at xs (y ∷ ys) ≡ y ∷ merge at xs ys
  unfolding merge into
  first-right y [] ys h = refl
  first-right y (x ∷ xs) ys h = rw h.0

  -- those that pass, behind one that does not, are above it
  above : (p : Bytes → Bool) (a : Bytes) → p a ≡ false → (xs : List A) → Each (λ x. le_bytes a (at x) ≡ true) xs → Each (λ x. le_bytes (at x) a ≡ false) (By p xs)
  above p a n = each-kept (λ x. p (at x)) (λ x. le_bytes a (at x) ≡ true) (λ x. le_bytes (at x) a ≡ false) (λ x y l. go x y l (le_bytes (at x) a) refl)
    where
      go : (x : A) → p (at x) ≡ true → le_bytes a (at x) ≡ true → (b : Bool) → le_bytes (at x) a ≡ b → b ≡ false
      go x y l true e = clash y (ap p (le_bytes-antisym (at x) a e l) ∙ n)
      go x y l false e = refl

  pub merge-keep : (p q : Bytes → Bool) → ((a : Bytes) → p a ≡ true → q a ≡ false) → (xs : List A) → Ascends at xs →
      merge at (By p xs) (By q xs) ≡ By (λ a. p a || q a) xs
  unfolding keep merge
  merge-keep p q apart [] h = refl
  merge-keep p q apart (x ∷ xs) h = go (p (at x)) refl (q (at x)) refl (merge-keep p q apart xs h.1)
    where
      go : (b : Bool) → p (at x) ≡ b → (c : Bool) → q (at x) ≡ c → merge at (By p xs) (By q xs) ≡ By (λ a. p a || q a) xs →
          merge at (cond b (x ∷ By p xs) (By p xs)) (cond c (x ∷ By q xs) (By q xs)) ≡ cond (b || c) (x ∷ By (λ a. p a || q a) xs) (By (λ a. p a || q a) xs)
      go true e true f ih = clash f (apart (at x) e)
      go true e false f ih =
          first-left x (merge at (By p xs)) (By q xs) (each_keep (λ y. q (at y)) (λ y. le_bytes (at x) (at y) ≡ true) xs h.0) ∙ ap (λ (l : List A). x ∷ l) ih
      go false e true f ih = first-right x (By p xs) (By q xs) (above p (at x) e xs h.0) ∙ ap (λ (l : List A). x ∷ l) ih
      go false e false f ih = ih

-- ---- the merge of what shards 0 to `last` keep

pub gather-same : {A : Type 0} (join : A → A → A) (last : ℕ) (f g : ℕ → A) → ((n : ℕ) → n ≤ last → f n ≡ g n) → gather join last f ≡ gather join last g
unfolding gather
gather-same join zero f g h = h 0 (omega arith)
gather-same join (suc last) f g h = ap₂ join (gather-same join last f g (λ n l. h n (omega arith))) (h (suc last) (omega arith))

first-shard : (n : ℕ) → eqb n 0 ≡ leb n 0
first-shard n = go (eqb n 0) refl
  where
    go : (b : Bool) → eqb n 0 ≡ b → b ≡ leb n 0
    go true e = let q = eqb-true n 0 e in sym (le-leb n 0 (omega arith))
    go false e = let q = eqb-false n 0 e in sym (lt-leb n 0 (positive n q))
      where
        positive : (m : ℕ) → (m ≡ 0 → ⊥) → suc 0 ≤ m
        positive m k = omega arith

next-shard : (n m : ℕ) → (leb n m || eqb n (suc m)) ≡ leb n (suc m)
next-shard n m = go (leb n m) refl (eqb n (suc m)) refl
  where
    go : (b : Bool) → leb n m ≡ b → (c : Bool) → eqb n (suc m) ≡ c → (b || c) ≡ leb n (suc m)
    go true e c f = let l = leb-true n m e in sym (le-leb n (suc m) (omega arith))
    go false e true f = let q = eqb-true n (suc m) f in sym (le-leb n (suc m) (omega arith))
    go false e false f = sym (lt-leb n (suc m) (beyond (leb-false n m e) (eqb-false n (suc m) f)))
      where
        beyond : suc m ≤ n → (n ≡ suc m → ⊥) → suc (suc m) ≤ n
        beyond l k = omega arith

module _ {A : Type 0} (at : A → Bytes) (shard_of : Bytes → ℕ) (xs : List A) (h : Ascends at xs) where
  -- tests of the shard that agree keep the same
  same : (p q : ℕ → Bool) → ((m : ℕ) → p m ≡ q m) → By at (λ a. p (shard_of a)) xs ≡ By at (λ a. q (shard_of a)) xs
  same p q e = ap (λ (r : ℕ → Bool). By at (λ a. r (shard_of a)) xs) (fun_ext e)

  gathered : (last : ℕ) → gather (merge at) last (λ n. By at (λ a. eqb (shard_of a) n) xs) ≡ By at (λ a. leb (shard_of a) last) xs
  unfolding gather
  gathered zero = same (λ m. eqb m 0) (λ m. leb m 0) first-shard
  gathered (suc last) =
      ap (λ (l : List A). merge at l (By at (λ a. eqb (shard_of a) (suc last)) xs)) (gathered last)
      ∙ merge-keep at (λ a. leb (shard_of a) last) (λ a. eqb (shard_of a) (suc last)) (λ a e. apart (shard_of a) (leb-true (shard_of a) last e)) xs h
      ∙ same (λ m. leb m last || eqb m (suc last)) (λ m. leb m (suc last)) (λ m. next-shard m last)
    where
      apart : (n : ℕ) → n ≤ last → eqb n (suc last) ≡ false
      apart n l = ne_eqb n (suc last) (λ e. omega arith)

  pub gather-keep : (last : ℕ) → ((a : Bytes) → shard_of a ≤ last) → gather (merge at) last (λ n. By at (λ a. eqb (shard_of a) n) xs) ≡ xs
  gather-keep last bound =
      gathered last
      ∙ keep-each (λ x. leb (shard_of (at x)) last) xs (each_of (λ x. leb (shard_of (at x)) last ≡ true) xs (λ x m. le-leb (shard_of (at x)) last (bound (at x))))
