-- The mark of an ascending list of nonces within its 16: as many set bits as nonces, and the list again.
use Prim.Native.Nat.{ℕ, zero, suc, ◌+◌, ◌≤◌, ◌<◌}
use native.Mathlib.Omega.{arith}
use mathlib.Core.Path.{◌≡◌, refl, ap, ◌∙◌}
use mathlib.Core.Bool.{Bool, true, false, ◌||◌, cond}
use mathlib.Core.List.{List, [], ◌∷◌}
use lib.Count.{ones, ones_step}
use lib.Dec.{eqb}
use lib.ListN.{length}
use borrow.Author.Tests.{eqb-true, eqb-false, ne_eqb}
use Rattle.lists.specs.Lists.{is_in}
use Rattle.short_rows.specs.Mark.{bit, bits_from, mark_of, set_from, marked_nonces}
use Rattle.short_rows.proofs.Bits.{bit_is, bits-half, bits-lowest}

-- ---- what is read back: of so many nonces from n on those that are listed

among : ℕ → ℕ → List ℕ → List ℕ
among zero n l = []
among (suc k) n l = cond (is_in n l) (n ∷ among k (suc n) l) (among k (suc n) l)

set-among : (k n : ℕ) (l : List ℕ) → set_from k n (bits_from k n l) ≡ among k n l
unfolding set_from among
set-among zero n l = refl
set-among (suc k) n l = rw (bits-lowest k n l, bits-half k n l, bit_is (is_in n l), set-among k (suc n) l)

ones-among : (k n : ℕ) (l : List ℕ) → ones (bits_from k n l) ≡ length (among k n l)
unfolding among bits_from ones bit
ones-among zero n l = refl
ones-among (suc k) n l = ones_step (bits_from (suc k) n l) ∙ rw (bits-lowest k n l, bits-half k n l, ones-among k (suc n) l) (go (is_in n l))
  where
    go : (b : Bool) → bit b + length (among k (suc n) l) ≡ length (cond b (n ∷ among k (suc n) l) (among k (suc n) l))
    go true = omega arith
    go false = omega arith

-- ---- an ascending list

-- each element at least `low` and below `high`, and above the one before
abbrev pub Ascending : ℕ → ℕ → List ℕ → Type 0
Ascending low high [] = Unit {0}
Ascending low high (n ∷ ns) = (low ≤ n) × (n < high) × Ascending (suc n) high ns

-- a lower start
pub ascending-from : (low low' high : ℕ) (l : List ℕ) → low' ≤ low → Ascending low high l → Ascending low' high l
ascending-from low low' high [] h a = tt
ascending-from low low' high (x ∷ xs) h a = (omega (arith, a.0), a.1, a.2)

-- as many elements at most as there are numbers between
pub ascending-few : (low high : ℕ) (l : List ℕ) → low ≤ high → Ascending low high l → low + length l ≤ high
ascending-few low high [] h a = omega arith
ascending-few low high (x ∷ xs) h a = omega (arith, a.0, ascending-few (suc x) high xs a.1 a.2)

-- nothing below the start is listed
not-below : (n low high : ℕ) (l : List ℕ) → n < low → Ascending low high l → is_in n l ≡ false
unfolding is_in
not-below n low high [] h a = refl
not-below n low high (x ∷ xs) h a =
    rw (ne_eqb x n (λ e. omega (arith, a.0)), not-below n (suc x) high xs (omega (arith, a.0)) a.2)

-- a listed nonce that lies before those looked at
among-past : (x : ℕ) (xs : List ℕ) (k n : ℕ) → x < n → among k n (x ∷ xs) ≡ among k n xs
unfolding among is_in
among-past x xs zero n h = refl
among-past x xs (suc k) n h = rw (ne_eqb x n (λ e. omega arith), among-past x xs k (suc n) (omega arith))

among-all : (k n : ℕ) (l : List ℕ) → Ascending n (n + k) l → among k n l ≡ l
unfolding among is_in
among-all zero n [] a = refl
among-all zero n (x ∷ xs) a = absurd (omega (arith, a.0, a.1))
among-all (suc k) n [] a = among-all k (suc n) [] tt
among-all (suc k) n (x ∷ xs) a = go (eqb x n) refl (among-all k (suc n) xs) (among-all k (suc n) (x ∷ xs))
  where
    e : n + suc k ≡ suc n + k
    e = omega arith

    go : (b : Bool) → eqb x n ≡ b → (Ascending (suc n) (suc n + k) xs → among k (suc n) xs ≡ xs) →
        (Ascending (suc n) (suc n + k) (x ∷ xs) → among k (suc n) (x ∷ xs) ≡ x ∷ xs) →
        cond (b || is_in n xs) (n ∷ among k (suc n) (x ∷ xs)) (among k (suc n) (x ∷ xs)) ≡ x ∷ xs
    go true p rest all =
        let q : x ≡ n = eqb-true x n p in
        rw (among-past x xs k (suc n) (omega arith), rest (rw (e, q) at a.2), q)
    go false p rest all =
        let h : n < x = omega (arith, a.0, eqb-false x n p) in
        rw (not-below n (suc x) (n + suc k) xs (omega arith) a.2) (all (omega arith, omega (arith, a.1), rw e at a.2))

-- ---- the laws

module _ (expected : ℕ) (l : List ℕ) (a : Ascending expected (expected + 16) l) where
  -- the mark says which nonces are listed
  pub nonces-back : marked_nonces expected (mark_of expected l) ≡ l
  unfolding marked_nonces mark_of
  nonces-back = set-among 16 expected l ∙ among-all 16 expected l a

  -- as many set bits as nonces
  pub ones-length : ones (mark_of expected l) ≡ length l
  unfolding mark_of
  ones-length = ones-among 16 expected l ∙ ap length (among-all 16 expected l a)
