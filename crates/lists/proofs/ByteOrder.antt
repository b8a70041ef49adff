-- The laws of `eq_bytes` and `le_bytes`, an equality and a total order on all lists of numbers, and of `Before`.
use Prim.Native.Nat.{ℕ, ◌<◌, ◌≤◌}
use mathlib.Core.Path.{◌≡◌, refl, sym, ap₂, ◌∙◌, subst}
use mathlib.Core.Logic.{◌⊎◌, inl, inr}
use mathlib.Core.Bool.{Bool, true, false, ◌&&◌, ◌||◌, false≢true, true≢false}
use mathlib.Core.List.{[], ◌∷◌}
use lib.Dec.{eqb, ltb}
use borrow.Author.Tests.{eqb-true, eqb-false, eq-eqb, ne_eqb, ltb-true, ltb-false, lt-ltb, le-ltb}
use native.Mathlib.Omega.{arith}
use Rattle.lists.specs.Bytes.{Bytes, eq_bytes, le_bytes, Before}

-- a test that both passes and fails proves anything
pub clash {ℓ} : {X : Type ℓ} {b : Bool} → b ≡ true → b ≡ false → X
clash p q = absurd (true≢false (sym p ∙ q))

pub and_left : (a b : Bool) → (a && b) ≡ true → a ≡ true
and_left true b h = refl
and_left false b h = absurd (false≢true h)

pub and_right : (a b : Bool) → (a && b) ≡ true → b ≡ true
and_right true b h = h
and_right false b h = absurd (false≢true h)

pub eq_bytes-refl : (a : Bytes) → eq_bytes a a ≡ true
unfolding eq_bytes
eq_bytes-refl [] = refl
eq_bytes-refl (x ∷ xs) = ap₂ ◌&&◌ (eq-eqb x x refl) (eq_bytes-refl xs)

pub eq_bytes-true : (a b : Bytes) → eq_bytes a b ≡ true → a ≡ b
unfolding eq_bytes
eq_bytes-true [] [] h = refl
eq_bytes-true [] (y ∷ ys) h = absurd (false≢true h)
eq_bytes-true (x ∷ xs) [] h = absurd (false≢true h)
eq_bytes-true (x ∷ xs) (y ∷ ys) h =
    ap₂ ◌∷◌ (eqb-true x y (and_left (eqb x y) (eq_bytes xs ys) h)) (eq_bytes-true xs ys (and_right (eqb x y) (eq_bytes xs ys) h))

pub eq_bytes-of : (a b : Bytes) → a ≡ b → eq_bytes a b ≡ true
eq_bytes-of a b e = subst (λ (x : Bytes). eq_bytes a x ≡ true) e (eq_bytes-refl a)

eqb-sym : (x y : ℕ) → eqb x y ≡ eqb y x
eqb-sym x y = go (eqb x y) refl
  where
    go : (b : Bool) → eqb x y ≡ b → b ≡ eqb y x
    go true e = sym (eq-eqb y x (sym (eqb-true x y e)))
    go false e = sym (ne_eqb y x (λ k. eqb-false x y e (sym k)))

pub eq_bytes-sym : (a b : Bytes) → eq_bytes a b ≡ eq_bytes b a
unfolding eq_bytes
eq_bytes-sym [] [] = refl
eq_bytes-sym [] (y ∷ ys) = refl
eq_bytes-sym (x ∷ xs) [] = refl
eq_bytes-sym (x ∷ xs) (y ∷ ys) = ap₂ ◌&&◌ (eqb-sym x y) (eq_bytes-sym xs ys)

-- The order of two strings that both have a first byte, as facts on numbers.
le_below : (x y : ℕ) (xs ys : Bytes) → x < y → le_bytes (x ∷ xs) (y ∷ ys) ≡ true
unfolding le_bytes
le_below x y xs ys h = rw (lt-ltb x y h)

le_same : (x y : ℕ) (xs ys : Bytes) → x ≡ y → le_bytes xs ys ≡ true → le_bytes (x ∷ xs) (y ∷ ys) ≡ true
unfolding le_bytes
le_same x y xs ys e h = rw (le-ltb x y (omega arith), eq-eqb x y e) h

le_split : (x y : ℕ) (xs ys : Bytes) → le_bytes (x ∷ xs) (y ∷ ys) ≡ true → (x < y) ⊎ ((x ≡ y) × (le_bytes xs ys ≡ true))
unfolding le_bytes
le_split x y xs ys h = go (ltb x y) refl (eqb x y) refl h
  where
    go : (b : Bool) → ltb x y ≡ b → (c : Bool) → eqb x y ≡ c → (b || (c && le_bytes xs ys)) ≡ true → (x < y) ⊎ ((x ≡ y) × (le_bytes xs ys ≡ true))
    go true p c q t = inl (ltb-true x y p)
    go false p true q t = inr (eqb-true x y q, t)
    go false p false q t = absurd (false≢true t)

pub le_bytes-refl : (a : Bytes) → le_bytes a a ≡ true
unfolding le_bytes
le_bytes-refl [] = refl
le_bytes-refl (x ∷ xs) = le_same x x xs xs refl (le_bytes-refl xs)

pub le_bytes-antisym : (a b : Bytes) → le_bytes a b ≡ true → le_bytes b a ≡ true → a ≡ b
unfolding le_bytes
le_bytes-antisym [] [] h k = refl
le_bytes-antisym [] (y ∷ ys) h k = absurd (false≢true k)
le_bytes-antisym (x ∷ xs) [] h k = absurd (false≢true h)
le_bytes-antisym (x ∷ xs) (y ∷ ys) h k = go (le_split x y xs ys h) (le_split y x ys xs k) (le_bytes-antisym xs ys)
  where
    go : (x < y) ⊎ ((x ≡ y) × (le_bytes xs ys ≡ true)) → (y < x) ⊎ ((y ≡ x) × (le_bytes ys xs ≡ true)) →
        (le_bytes xs ys ≡ true → le_bytes ys xs ≡ true → xs ≡ ys) → (x ∷ xs) ≡ (y ∷ ys)
    go (inl p) (inl q) ih = absurd (omega arith)
    go (inl p) (inr q) ih = absurd (omega arith)
    go (inr p) (inl q) ih = absurd (omega arith)
    go (inr p) (inr q) ih = ap₂ ◌∷◌ p.0 (ih p.1 q.1)

pub le_bytes-trans : (a b c : Bytes) → le_bytes a b ≡ true → le_bytes b c ≡ true → le_bytes a c ≡ true
unfolding le_bytes
le_bytes-trans [] b c h k = refl
le_bytes-trans (x ∷ xs) [] c h k = absurd (false≢true h)
le_bytes-trans (x ∷ xs) (y ∷ ys) [] h k = absurd (false≢true k)
le_bytes-trans (x ∷ xs) (y ∷ ys) (z ∷ zs) h k = go (le_split x y xs ys h) (le_split y z ys zs k) (le_bytes-trans xs ys zs)
  where
    go : (x < y) ⊎ ((x ≡ y) × (le_bytes xs ys ≡ true)) → (y < z) ⊎ ((y ≡ z) × (le_bytes ys zs ≡ true)) →
        (le_bytes xs ys ≡ true → le_bytes ys zs ≡ true → le_bytes xs zs ≡ true) → le_bytes (x ∷ xs) (z ∷ zs) ≡ true
    go (inl p) (inl q) ih = le_below x z xs zs (omega arith)
    go (inl p) (inr q) ih = le_below x z xs zs (omega arith)
    go (inr p) (inl q) ih = le_below x z xs zs (omega arith)
    go (inr p) (inr q) ih = le_same x z xs zs (p.0 ∙ q.0) (ih p.1 q.1)

pub le_bytes-total : (a b : Bytes) → le_bytes a b ≡ false → le_bytes b a ≡ true
unfolding le_bytes
le_bytes-total [] b h = absurd (true≢false h)
le_bytes-total (x ∷ xs) [] h = refl
le_bytes-total (x ∷ xs) (y ∷ ys) h = go (ltb x y) refl (eqb x y) refl h (le_bytes-total xs ys)
  where
    go : (b : Bool) → ltb x y ≡ b → (c : Bool) → eqb x y ≡ c → (b || (c && le_bytes xs ys)) ≡ false →
        (le_bytes xs ys ≡ false → le_bytes ys xs ≡ true) → le_bytes (y ∷ ys) (x ∷ xs) ≡ true
    go true p c q t ih = absurd (true≢false t)
    go false p true q t ih = le_same y x ys xs (sym (eqb-true x y q)) (ih t)
    go false p false q t ih = le_below y x ys xs (differ (ltb-false x y p) (eqb-false x y q))
      where
        differ : y ≤ x → (x ≡ y → ⊥) → y < x
        differ l n = omega arith

pub before-not-after : (a b : Bytes) → Before a b → le_bytes b a ≡ false
before-not-after a b h = go (le_bytes b a) refl
  where
    go : (t : Bool) → le_bytes b a ≡ t → t ≡ false
    go true e = clash (eq_bytes-of a b (le_bytes-antisym a b h.0 e)) h.1
    go false e = refl

pub before-trans : (a b c : Bytes) → Before a b → Before b c → Before a c
before-trans a b c h k = (le_bytes-trans a b c h.0 k.0, go (eq_bytes a c) refl)
  where
    go : (t : Bool) → eq_bytes a c ≡ t → t ≡ false
    go true e = clash (subst (λ (x : Bytes). le_bytes b x ≡ true) (sym (eq_bytes-true a c e)) k.0) (before-not-after a b h)
    go false e = refl
