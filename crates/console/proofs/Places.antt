-- The fewest decimal digits that hold a number are as many as the definition counts.
use Prim.Native.Nat.{ℕ, zero, suc, ◌-◌, ◌/◌, ◌^◌, ◌≤◌, ◌<◌}
use native.Mathlib.Omega.{arith}
use native.Mathlib.Nat.{pow-suc, pow-le-pow_right}
use mathlib.Core.Path.{◌≡◌, refl, ap, ◌∙◌}
use mathlib.Core.Bool.{Bool, true, false, cond}
use lib.Dec.{ltb}
use borrow.Author.Tests.{ltb-true, ltb-false}
use Rattle.io.specs.Digits.{IsDigitCount, last_digits}
use Rattle.lists.specs.Bytes.{Bytes}
use Rattle.console.specs.Waiting.{places, decimal}

cut : (j : ℕ) → suc j - 1 ≡ j
cut j = omega arith

-- a number of two digits or more is at least the least of them
up : (j n : ℕ) → IsDigitCount 10 1 n (suc (suc j)) → 10 ^ suc j ≤ n
up j n h = rw (cut (suc j)) at (h.2 (omega arith))

-- a number below ten has one digit
one-digit : (n k : ℕ) → IsDigitCount 10 1 n k → n < 10 → k ≡ 1
one-digit n zero h l = omega (arith, h.0)
one-digit n (suc zero) h l = refl
one-digit n (suc (suc j)) h l =
    let p : 10 ^ 1 ≤ 10 ^ suc j = pow-le-pow_right {n = 10} (omega arith) {i = 1} {j = suc j} (omega arith) in
    let q : 10 ^ suc j ≤ n = up j n h in
    omega arith

least : (j n : ℕ) → 10 ^ suc j ≤ n → 10 ^ (suc j - 1) ≤ n / 10
least j n h = rw (cut j) (omega (arith, pow-suc 10 j))

-- another has one digit more than its tenth
tenth : (n k : ℕ) → IsDigitCount 10 1 n k → 10 ≤ n → (k ≡ suc (k - 1)) × IsDigitCount 10 1 (n / 10) (k - 1)
tenth n zero h l = omega (arith, h.0)
tenth n (suc zero) h l = let low : n < 10 ^ 1 = h.1 in omega arith
tenth n (suc (suc j)) h l =
    let low : n < 10 ^ suc (suc j) = h.1 in
    let high : 10 ^ suc j ≤ n = up j n h in
    let digits-left : IsDigitCount 10 1 (n / 10) (suc j) = (omega arith, omega (arith, pow-suc 10 (suc j)), λ more. least j n high) in
    (omega arith, rw (cut (suc j)) digits-left)

-- one step of the count, where the tenth's is known
step : (f n k : ℕ) (t : Bool) → ltb n 10 ≡ t → IsDigitCount 10 1 n k → (IsDigitCount 10 1 (n / 10) (k - 1) → k - 1 ≡ places f (n / 10))
    → k ≡ cond t 1 (suc (places f (n / 10)))
step f n k true e h rest = one-digit n k h (ltb-true n 10 e)
step f n k false e h rest =
    let next : (k ≡ suc (k - 1)) × IsDigitCount 10 1 (n / 10) (k - 1) = tenth n k h (ltb-false n 10 e) in
    next.0 ∙ ap suc (rest next.1)

pub fewest-places : (f n k : ℕ) → n < 10 ^ suc f → IsDigitCount 10 1 n k → k ≡ places f n
unfolding places
fewest-places zero n k b h = one-digit n k h (omega arith)
fewest-places (suc f) n k b h =
    step f n k (ltb n 10) refl h (fewest-places f (n / 10) (k - 1) (omega (arith, pow-suc 10 (suc f))))

-- the digits that were made are the definition's
pub decimal-text : (n k : ℕ) (t : Bytes) → n < 18446744073709551616 → IsDigitCount 10 1 n k → t ≡ last_digits 10 k n → t ≡ decimal n
unfolding decimal
decimal-text n k t b h e = e ∙ ap (λ (j : ℕ). last_digits 10 j n) (fewest-places 19 n k (omega arith) h)
