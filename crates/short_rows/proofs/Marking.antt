-- A mark with one nonce more.
use Prim.Native.Nat.{ℕ, zero, suc, ◌+◌, ◌*◌, ◌-◌, ◌/◌, ◌%◌, ◌^◌, ◌≤◌, ◌<◌, max}
use native.Mathlib.Nat.{mod-eq_of_lt}
use native.Mathlib.Omega.{arith}
use mathlib.Core.Path.{◌≡◌, refl, ◌∙◌}
use mathlib.Core.Bool.{Bool, true, false, ◌||◌}
use mathlib.Core.List.{List, [], ◌∷◌, ◌++◌}
use lib.Bits.{bit_or, or_step, or_zero_r, shifted_half, shifted_even}
use lib.Pow.{pow_mono}
use borrow.Author.Tests.{eq-eqb, ne_eqb}
use Rattle.lists.specs.Lists.{is_in}
use Rattle.lists.proofs.Elements.{in-append}
use Rattle.short_rows.specs.Mark.{bit, bits_from, mark_of}
use Rattle.short_rows.proofs.Bits.{bits-half, bits-lowest}

-- ---- a list with one element more

or-none : (b : Bool) → (b || (false || false)) ≡ b
or-none true = refl
or-none false = refl

or-here : (b : Bool) → (b || (true || false)) ≡ true
or-here true = refl
or-here false = refl

in-other : (m n : ℕ) (l : List ℕ) → (n ≡ m → ⊥) → is_in m (l ++ n ∷ []) ≡ is_in m l
unfolding is_in
in-other m n l h = in-append m l (n ∷ []) ∙ rw (ne_eqb n m h) (or-none (is_in m l))

in-last : (n : ℕ) (l : List ℕ) → is_in n (l ++ n ∷ []) ≡ true
unfolding is_in
in-last n l = in-append n l (n ∷ []) ∙ rw (eq-eqb n n refl) (or-here (is_in n l))

-- ---- a nonce that has no bit

bits-low : (k e n : ℕ) (l : List ℕ) → n < e → bits_from k e (l ++ n ∷ []) ≡ bits_from k e l
unfolding bits_from
bits-low zero e n l h = refl
bits-low (suc k) e n l h = rw (in-other e n l (λ q. omega arith), bits-low k (suc e) n l (omega arith))

bits-high : (k e n : ℕ) (l : List ℕ) → e + k ≤ n → bits_from k e (l ++ n ∷ []) ≡ bits_from k e l
unfolding bits_from
bits-high zero e n l h = refl
bits-high (suc k) e n l h = rw (in-other e n l (λ q. omega arith), bits-high k (suc e) n l (omega arith))

-- ---- a nonce that has one

max-one : (b : Bool) → max (bit b) 1 ≡ 1
unfolding bit
max-one true = refl
max-one false = refl

max-zero : (b : Bool) → max (bit b) 0 ≡ bit b
unfolding bit
max-zero true = refl
max-zero false = refl

lowest : (k e : ℕ) (l : List ℕ) → bits_from (suc k) e (l ++ e ∷ []) ≡ bits_from k (suc e) l * 2 + 1
unfolding bits_from bit
lowest k e l = rw (in-last e l, bits-low k (suc e) e l (omega arith)) (omega arith)

higher : (k e n m : ℕ) (l : List ℕ) → (n ≡ e → ⊥) → bits_from k (suc e) (l ++ n ∷ []) ≡ m → bits_from (suc k) e (l ++ n ∷ []) ≡ m * 2 + bit (is_in e l)
unfolding bits_from
higher k e n m l h q = rw (in-other e n l h, q) (omega arith)

power-half : (d : ℕ) → 2 ^ suc d / 2 ≡ 2 ^ d
power-half d =
    let p : 1 * 2 ^ suc d ≡ 2 ^ suc d = omega arith in
    let q : 1 * 2 ^ d ≡ 2 ^ d = omega arith in
    rw (p, q) at (shifted_half 1 d)

power-even : (d : ℕ) → 2 ^ suc d % 2 ≡ 0
power-even d = let p : 1 * 2 ^ suc d ≡ 2 ^ suc d = omega arith in rw p at (shifted_even 1 d)

bits-more : (k e d : ℕ) (l : List ℕ) → d < k → bits_from k e (l ++ (e + d) ∷ []) ≡ bit_or (bits_from k e l) (2 ^ d)
bits-more zero e d l h = absurd (omega arith)
bits-more (suc k) e zero l h =
    let q : e + 0 ≡ e = omega arith in
    rw (q, or_step (bits_from (suc k) e l) 1, bits-half k e l, bits-lowest k e l, or_zero_r (bits_from k (suc e) l), max-one (is_in e l)) (lowest k e l)
bits-more (suc k) e (suc d) l h =
    let q : e + suc d ≡ suc e + d = omega arith in
    rw (or_step (bits_from (suc k) e l) (2 ^ suc d), bits-half k e l, bits-lowest k e l, power-half d, power-even d, max-zero (is_in e l))
    (higher k e (e + suc d) (bit_or (bits_from k (suc e) l) (2 ^ d)) l (λ z. omega arith) (rw q (bits-more k (suc e) d l (omega arith))))

-- ---- the mark

pub none-marked : (e : ℕ) → mark_of e [] ≡ 0
unfolding mark_of bits_from bit is_in
none-marked e = refl

-- as the code shifts a one
shifted : (d : ℕ) → d < 16 → 1 * 2 ^ d % 65536 ≡ 2 ^ d
shifted d h =
    let p : 1 * 2 ^ d ≡ 2 ^ d = omega arith in
    let b : 2 ^ d ≤ 2 ^ 15 = pow_mono {i = d} {j = 15} (omega arith) in
    rw p (mod-eq_of_lt (omega arith))

module _ (e n : ℕ) (l : List ℕ) where
  pub mark-below : n < e → mark_of e (l ++ n ∷ []) ≡ mark_of e l
  unfolding mark_of
  mark-below h = bits-low 16 e n l h

  pub mark-beyond : e + 16 ≤ n → mark_of e (l ++ n ∷ []) ≡ mark_of e l
  unfolding mark_of
  mark-beyond h = bits-high 16 e n l h

  pub mark-within : e ≤ n → n - e < 16 → mark_of e (l ++ n ∷ []) ≡ bit_or (mark_of e l) (1 * 2 ^ (n - e) % 65536)
  unfolding mark_of
  mark-within h b =
      let p : e + (n - e) ≡ n = omega arith in
      rw (shifted (n - e) b) (rw p at (bits-more 16 e (n - e) l b))
