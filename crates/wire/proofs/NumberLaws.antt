-- Numbers and their bytes, there and back.
use Prim.Native.Nat.{ℕ, zero, suc, ◌+◌, ◌*◌, ◌^◌, ◌<◌, ◌/◌, ◌%◌}
use native.Mathlib.Omega.{arith}
use native.Mathlib.Nat.{pow-suc}
use mathlib.Core.Path.{◌≡◌, refl, ap}
use mathlib.Core.List.{[], ◌∷◌}
use lib.ListN.{length}
use Rattle.lists.specs.Bytes.{Bytes}
use Rattle.lists.specs.Lists.{Each}
use Rattle.wire.specs.Numbers.{num, digits}

-- a number that fits in a byte
abbrev pub IsByte : ℕ → Type 0
IsByte b = b < 256

pub length_digits : (w n : ℕ) → length (digits w n) ≡ w
unfolding digits
length_digits zero n = refl
length_digits (suc w) n = ap suc (length_digits w (n / 256))

pub num-digits : (w n : ℕ) → n < 256 ^ w → num (digits w n) ≡ n
unfolding num digits
num-digits zero n h = omega arith
num-digits (suc w) n h =
    let q : n / 256 < 256 ^ w = omega (arith, pow-suc 256 w) in
    rw (num-digits w (n / 256) q) (omega arith)

pub digits-num : (w : ℕ) (f : Bytes) → length f ≡ w → Each IsByte f → digits w (num f) ≡ f
unfolding digits num
digits-num zero [] l h = refl
digits-num zero (b ∷ f) l h = absurd (omega arith)
digits-num (suc w) [] l h = absurd (omega arith)
digits-num (suc w) (b ∷ f) l h =
    let p = h.0 in
    let x : (b + 256 * num f) % 256 ≡ b = omega arith in
    let y : (b + 256 * num f) / 256 ≡ num f = omega arith in
    rw (x, y, digits-num w f (omega arith) h.1)

-- so many bytes stand for a number below 256 to that power
pub num-below : (bs : Bytes) → Each IsByte bs → num bs < 256 ^ length bs
unfolding num
num-below [] h = omega arith
num-below (b ∷ bs) h = let l = h.0 in omega (arith, num-below bs h.1, pow-suc 256 (length bs))
