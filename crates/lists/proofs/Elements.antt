-- The elements of lists that are kept or joined: how many there are, what holds of each, and which numbers are among them.
use Prim.Native.Nat.{ℕ, ◌≤◌}
use native.Mathlib.Omega.{arith}
use mathlib.Core.Path.{◌≡◌, refl, sym, ◌∙◌, subst}
use mathlib.Core.Bool.{Bool, true, false, ◌&&◌, ◌||◌, cond, or_assoc}
use mathlib.Core.List.Memᴰ
use mathlib.Core.List.{List, [], ◌∷◌, ◌++◌, Memᴰ}
use lib.Dec.{eqb}
use lib.ListN.{length}
use borrow.Author.Tests.{eqb-true}
use Rattle.lists.specs.Lists.{keep, Each, is_in}
use Rattle.lists.proofs.Keeping.{mem-keep}

module _ {A : Type 0} (p : A → Bool) where
  pub length-keep : (xs : List A) → length (keep p xs) ≤ length xs
  unfolding keep
  length-keep [] = omega arith
  length-keep (x ∷ xs) = go (p x) (length-keep xs)
    where
      go : (b : Bool) → length (keep p xs) ≤ length xs → length (cond b (x ∷ keep p xs) (keep p xs)) ≤ length (x ∷ xs)
      go true h = omega arith
      go false h = omega arith

  -- what follows from P where the test passes holds of all that is kept
  pub each-kept : (P Q : A → Type 0) → ((x : A) → p x ≡ true → P x → Q x) → (xs : List A) → Each P xs → Each Q (keep p xs)
  unfolding keep
  each-kept P Q f [] h = tt
  each-kept P Q f (x ∷ xs) h = go (p x) refl (each-kept P Q f xs h.1)
    where
      go : (b : Bool) → p x ≡ b → Each Q (keep p xs) → Each Q (cond b (x ∷ keep p xs) (keep p xs))
      go true e t = (f x e h.0, t)
      go false e t = t

  pub each_keep : (P : A → Type 0) (xs : List A) → Each P xs → Each P (keep p xs)
  each_keep P = each-kept P P (λ x e h. h)

  -- where nothing is kept, every element fails the test
  pub keep-none : (xs : List A) → keep p xs ≡ [] → (x : A) → Memᴰ x xs → p x ≡ false
  keep-none xs e x m = go (p x) refl
    where
      go : (b : Bool) → p x ≡ b → b ≡ false
      go true q = absurd (Memᴰ.not-nil (subst (Memᴰ x) e (mem-keep p x xs q m)))
      go false q = refl

pub each-join : {A : Type 0} (P : A → Type 0) (xs ys : List A) → Each P xs → Each P ys → Each P (xs ++ ys)
each-join P [] ys h k = k
each-join P (x ∷ xs) ys h k = (h.0, each-join P xs ys h.1 k)

pub in-append : (n : ℕ) (xs ys : List ℕ) → is_in n (xs ++ ys) ≡ (is_in n xs || is_in n ys)
unfolding is_in
in-append n [] ys = refl
in-append n (x ∷ xs) ys = rw (in-append n xs ys) (sym (or_assoc (eqb x n) (is_in n xs) (is_in n ys)))

pub in-keep : (p : ℕ → Bool) (n : ℕ) (xs : List ℕ) → is_in n (keep p xs) ≡ (p n && is_in n xs)
unfolding is_in keep
in-keep p n [] = neither (p n)
  where
    neither : (b : Bool) → false ≡ (b && false)
    neither true = refl
    neither false = refl
in-keep p n (x ∷ xs) = go (p x) refl (eqb x n) refl (in-keep p n xs)
  where
    go : (b : Bool) → p x ≡ b → (c : Bool) → eqb x n ≡ c → is_in n (keep p xs) ≡ (p n && is_in n xs) →
        is_in n (cond b (x ∷ keep p xs) (keep p xs)) ≡ (p n && (c || is_in n xs))
    go true e true q ih = rw (q, ← eqb-true x n q, e)
    go true e false q ih = rw q ih
    go false e true q ih = ih ∙ rw (← eqb-true x n q, e)
    go false e false q ih = ih
