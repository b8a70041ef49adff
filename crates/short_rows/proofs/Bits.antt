-- The bits of a mark, taken off its front one by one.
use Prim.Native.Nat.{ℕ, zero, suc, ◌+◌, ◌*◌, ◌/◌, ◌%◌, ◌^◌, ◌<◌}
use native.Mathlib.Nat.{add-mul-div_left, add-mul-mod_self_left, div-div-eq-div-mul, div-one, mul_comm, pow-suc, zero-lt-suc}
use native.Mathlib.Omega.{arith}
use mathlib.Core.Path.{◌≡◌, refl, ◌∙◌}
use mathlib.Core.Bool.{Bool, true, false}
use mathlib.Core.List.{List}
use lib.Dec.{eqb}
use Rattle.lists.specs.Lists.{is_in}
use Rattle.short_rows.specs.Mark.{bit, bits_from, mark_of}

-- ---- a bit in front

front-half : (b : Bool) (m : ℕ) → (bit b + 2 * m) / 2 ≡ m
unfolding bit
front-half true m = add-mul-div_left 1 m (zero-lt-suc 1) ∙ omega arith
front-half false m = add-mul-div_left 0 m (zero-lt-suc 1) ∙ omega arith

front-bit : (b : Bool) (m : ℕ) → (bit b + 2 * m) % 2 ≡ bit b
unfolding bit
front-bit true m = add-mul-mod_self_left 1 2 m
front-bit false m = add-mul-mod_self_left 0 2 m

pub bit_is : (b : Bool) → eqb (bit b) 1 ≡ b
unfolding bit
bit_is true = refl
bit_is false = refl

module _ (k n : ℕ) (l : List ℕ) where
  pub bits-half : bits_from (suc k) n l / 2 ≡ bits_from k (suc n) l
  unfolding bits_from
  bits-half = front-half (is_in n l) (bits_from k (suc n) l)

  pub bits-lowest : bits_from (suc k) n l % 2 ≡ bit (is_in n l)
  unfolding bits_from
  bits-lowest = front-bit (is_in n l) (bits_from k (suc n) l)

-- no bit is set above them
bits-lt : (k n : ℕ) (l : List ℕ) → bits_from k n l < 2 ^ k
unfolding bits_from bit
bits-lt zero n l = zero-lt-suc 0
bits-lt (suc k) n l = rw (pow-suc 2 k) (go (is_in n l) (bits-lt k (suc n) l))
  where
    go : (b : Bool) → bits_from k (suc n) l < 2 ^ k → bit b + 2 * bits_from k (suc n) l < 2 ^ k * 2
    go true h = omega arith
    go false h = omega arith

-- bit i is set if and only if nonce n + i is listed
bit_at : (k n : ℕ) (l : List ℕ) (i : ℕ) → i < k → bits_from k n l / 2 ^ i % 2 ≡ bit (is_in (n + i) l)
bit_at zero n l i h = absurd (omega arith)
bit_at (suc k) n l zero h = let e : n + 0 ≡ n = omega arith in rw (e, div-one (bits_from (suc k) n l)) (bits-lowest k n l)
bit_at (suc k) n l (suc i) h =
    let e : n + suc i ≡ suc n + i = omega arith in
    rw (pow-suc 2 i, mul_comm (2 ^ i) 2, ← div-div-eq-div-mul (bits_from (suc k) n l) 2 (2 ^ i), bits-half k n l, e) (bit_at k (suc n) l i (omega arith))

-- ---- the mark

pub mark-lt : (expected : ℕ) (l : List ℕ) → mark_of expected l < 2 ^ 16
unfolding mark_of
mark-lt expected l = bits-lt 16 expected l

pub mark-at : (expected : ℕ) (l : List ℕ) (i : ℕ) → i < 16 → mark_of expected l / 2 ^ i % 2 ≡ bit (is_in (expected + i) l)
unfolding mark_of
mark-at expected l i h = bit_at 16 expected l i h
