-- What is read from a mark: its nonces one after another, and the first by the lowest set bit.
use Prim.Native.Nat.{ℕ, zero, suc, ◌+◌, ◌-◌, ◌/◌, ◌%◌, ◌^◌, ◌≤◌, ◌<◌}
use native.Mathlib.Nat.{div-add-mod', mod-lt, zero-lt-suc, div-lt_iff_lt-mul, pow-suc, add-zero}
use native.Mathlib.Omega.{arith}
use mathlib.Core.Path.{◌≡◌, refl, sym, ◌∙◌}
use mathlib.Core.Bool.{Bool, true, false, cond}
use mathlib.Core.List.{List, [], ◌∷◌, ◌++◌, append_assoc, append-nil}
use Rattle.std.specs.Prelude.{Option, None, Some, slice_get}
use lib.Count.{count_trailing_zeros, under}
use lib.Dec.{eqb, leb}
use lib.ListN.{replicate, set}
use borrow.Author.Tests.{leb-true, leb-false, ne_eqb, lt-ltb, le-ltb, ltb-false}
use Rattle.lists.specs.Lists.{keep}
use Rattle.short_rows.specs.Mark.{set_from, marked_nonces}
use Rattle.short_rows.specs.Reading.{is_nonce, nonces_read, Lists}
use Rattle.short_rows.proofs.Gathering.{Gathers, gather_none, gather-hit, gather-miss, gathered}

-- ---- a nonce has 64 bits

pub nonce-fits : (expected place : ℕ) → expected < 2 ^ 64 → leb place (18446744073709551615 - expected) ≡ is_nonce (expected + place)
nonce-fits expected place h = go (leb place (18446744073709551615 - expected)) refl
  where
    go : (b : Bool) → leb place (18446744073709551615 - expected) ≡ b → b ≡ is_nonce (expected + place)
    go true e = sym (lt-ltb (expected + place) (2 ^ 64) (omega (arith, leb-true place (18446744073709551615 - expected) e)))
    go false e = sym (le-ltb (expected + place) (2 ^ 64) (omega (arith, leb-false place (18446744073709551615 - expected) e)))

-- ---- one bit after another

-- after i bits of a mark: the nonces gathered, and the bits that are left
pub record Reads (expected mark : ℕ) (out : List ℕ) (count rest i : ℕ) : Type 0 where
  pub within : i ≤ 16
  pub told : List ℕ
  pub gathers : Gathers out count i told
  pub left : nonces_read expected mark ≡ told ++ keep is_nonce (set_from (16 - i) (expected + i) rest)

module _ (expected mark : ℕ) where
  pub read_none : Reads expected mark (replicate 16 0) 0 mark 0
  unfolding nonces_read marked_nonces
  read_none = record { within = omega arith; told = []; gathers = gather_none; left = rw (add-zero expected) }

  module _ (out : List ℕ) (count rest i : ℕ) (r : Reads expected mark out count rest i) where
    module _ (more : i < 16) where
      -- the nonces that are left, by the lowest of the bits that are left
      next : set_from (16 - i) (expected + i) rest
          ≡ cond (eqb (rest % 2) 1) ((expected + i) ∷ set_from (16 - (i + 1)) (expected + (i + 1)) (rest / 2)) (set_from (16 - (i + 1)) (expected + (i + 1)) (rest / 2))
      unfolding set_from
      next =
          let k : 16 - i ≡ suc (16 - (i + 1)) = omega arith in
          let n : suc (expected + i) ≡ expected + (i + 1) = omega arith in
          rw k (rw n)

      pub read-nonce : rest % 2 ≡ 1 → is_nonce (expected + i) ≡ true → (place x : ℕ) → place ≡ count → x ≡ expected + i →
          Reads expected mark (set out place x) (count + 1) (rest / 2) (i + 1)
      unfolding keep
      read-nonce odd fits place x p e =
          record {
            within = omega arith;
            told = r.told ++ ((expected + i) ∷ []);
            gathers = rw e (gather-hit out count i r.told r.gathers (expected + i) place p (omega (arith, r.gathers.within)));
            left = r.left ∙ rw (next, odd, fits) (sym (append_assoc r.told ((expected + i) ∷ []) (keep is_nonce (set_from (16 - (i + 1)) (expected + (i + 1)) (rest / 2)))));
          }

      pub read-beyond : rest % 2 ≡ 1 → is_nonce (expected + i) ≡ false → Reads expected mark out count (rest / 2) (i + 1)
      unfolding keep
      read-beyond odd fits =
          record { within = omega arith; told = r.told; gathers = gather-miss out count i r.told r.gathers; left = r.left ∙ rw (next, odd, fits) }

      pub read-unset : (rest % 2 ≡ 1 → ⊥) → Reads expected mark out count (rest / 2) (i + 1)
      read-unset even =
          record { within = omega arith; told = r.told; gathers = gather-miss out count i r.told r.gathers; left = r.left ∙ rw (next, ne_eqb (rest % 2) 1 even) }

    pub read_all : 16 ≤ i → Lists (nonces_read expected mark) (record { at = out; count = count })
    unfolding set_from keep
    read_all h =
        let k : 16 - i ≡ 0 = omega arith in
        rw (r.left, k, append-nil) (gathered out count i r.told r.gathers)

-- ---- the lowest set bit

-- past the last nonce there is none
none-beyond : (k n bits : ℕ) → is_nonce n ≡ false → keep is_nonce (set_from k n bits) ≡ []
unfolding set_from keep
none-beyond zero n bits h = refl
none-beyond (suc k) n bits h = go (eqb (bits % 2) 1) (none-beyond k (suc n) (bits / 2) (le-ltb (suc n) (2 ^ 64) (omega (arith, ltb-false n (2 ^ 64) h))))
  where
    go : (b : Bool) → keep is_nonce (set_from k (suc n) (bits / 2)) ≡ [] → keep is_nonce (cond b (n ∷ set_from k (suc n) (bits / 2)) (set_from k (suc n) (bits / 2))) ≡ []
    go true ih = rw h ih
    go false ih = ih

-- a number that is a nonce, or none
abbrev as_nonce : ℕ → Option ℕ
as_nonce n = cond (is_nonce n) (Some n) None

first_of : (n : ℕ) (ns : List ℕ) → (is_nonce n ≡ false → keep is_nonce ns ≡ []) → slice_get (keep is_nonce (n ∷ ns)) 0 ≡ as_nonce n
unfolding keep
first_of n ns h = go (is_nonce n) refl
  where
    go : (b : Bool) → is_nonce n ≡ b → slice_get (cond b (n ∷ keep is_nonce ns) (keep is_nonce ns)) 0 ≡ cond b (Some n) None
    go true e = refl
    go false e = rw (h e)

-- of bits that are not all zero
lowest_set : (k n bits : ℕ) → bits < 2 ^ k → (bits ≡ 0 → ⊥) → slice_get (keep is_nonce (set_from k n bits)) 0 ≡ as_nonce (n + count_trailing_zeros k bits)
unfolding set_from count_trailing_zeros
lowest_set zero n bits h z = absurd (z (omega arith))
lowest_set (suc k) n bits h z = go (bits % 2) refl (mod-lt bits (zero-lt-suc 1)) (lowest_set k (suc n) (bits / 2) ((div-lt_iff_lt-mul (zero-lt-suc 1)).1 (rw (← pow-suc 2 k) h)))
  where
    go : (b : ℕ) → bits % 2 ≡ b → b < 2 → ((bits / 2 ≡ 0 → ⊥) → slice_get (keep is_nonce (set_from k (suc n) (bits / 2))) 0 ≡ as_nonce (suc n + count_trailing_zeros k (bits / 2))) →
        slice_get (keep is_nonce (cond (eqb b 1) (n ∷ set_from k (suc n) (bits / 2)) (set_from k (suc n) (bits / 2)))) 0 ≡ as_nonce (n + under b (count_trailing_zeros k (bits / 2)))
    go zero e b ih =
        let s : n + suc (count_trailing_zeros k (bits / 2)) ≡ suc n + count_trailing_zeros k (bits / 2) = omega arith in
        rw s (ih (λ q. z (omega (arith, div-add-mod' bits 2, q, e))))
    go (suc zero) e b ih =
        rw (add-zero n) (first_of n (set_from k (suc n) (bits / 2)) (λ f. none-beyond k (suc n) (bits / 2) (le-ltb (suc n) (2 ^ 64) (omega (arith, ltb-false n (2 ^ 64) f)))))
    go (suc (suc c)) e b ih = absurd (omega arith)

-- of a mark of no bit
none-set : (k n : ℕ) → set_from k n 0 ≡ []
unfolding set_from
none-set zero n = refl
none-set (suc k) n = none-set k (suc n)

module _ (expected : ℕ) where
  pub first-of-none : None ≡ slice_get (nonces_read expected 0) 0
  unfolding nonces_read marked_nonces keep
  first-of-none = rw (none-set 16 expected)

  module _ (mark : ℕ) (fits : mark < 2 ^ 16) (some-set : mark ≡ 0 → ⊥) where
    pub first-beyond : is_nonce (expected + count_trailing_zeros 16 mark) ≡ false → None ≡ slice_get (nonces_read expected mark) 0
    unfolding nonces_read marked_nonces
    first-beyond h = sym (lowest_set 16 expected mark fits some-set ∙ rw h)

    pub first-is : is_nonce (expected + count_trailing_zeros 16 mark) ≡ true → Some (expected + count_trailing_zeros 16 mark) ≡ slice_get (nonces_read expected mark) 0
    unfolding nonces_read marked_nonces
    first-is h = sym (lowest_set 16 expected mark fits some-set ∙ rw h)
