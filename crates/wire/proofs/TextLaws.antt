-- A hash's canonical text: its bytes, and what it parses to.
use Prim.Native.Nat.{ℕ, ◌+◌, ◌*◌, ◌<◌, ◌≤◌, ◌/◌, ◌%◌}
use native.Mathlib.Omega.{arith}
use mathlib.Core.Path.{◌≡◌, refl}
use mathlib.Core.Bool.{Bool, true, false, cond}
use mathlib.Core.List.{[], ◌∷◌}
use Rattle.std.specs.Prelude.{Some}
use lib.Dec.{ltb}
use lib.ListN.{length}
use borrow.Author.Tests.{ltb-true, ltb-false, lt-ltb, le-ltb, le-leb, lt-leb, eq-eqb}
use Rattle.lists.specs.Bytes.{Bytes, eq_bytes}
use Rattle.lists.specs.Lists.{Each}
use Rattle.wire.specs.HashText.{hex_value, hex_digit, hex_text, canonical, unprefixed, all_hex, from_hex, parses, parse_hash}
use Rattle.wire.proofs.NumberLaws.{IsByte}

-- a byte that a text may have
abbrev pub IsText : ℕ → Type 0
IsText b = (32 ≤ b) × (b ≤ 126)

-- ---- one digit

value-of-digit : (n : ℕ) → n < 16 → hex_value (hex_digit n) ≡ n
unfolding hex_value hex_digit
value-of-digit n h = go (ltb n 10) refl
  where
    go : (b : Bool) → ltb n 10 ≡ b → hex_value (cond b (48 + n) (87 + n)) ≡ n
    go true e =
        let l : n < 10 = ltb-true n 10 e in
        rw (le-ltb (48 + n) 48 (omega arith), le-leb (48 + n) 57 (omega arith)) (omega arith)
    go false e =
        let l : 10 ≤ n = ltb-false n 10 e in
        rw (
          le-ltb (87 + n) 48 (omega arith),
          lt-leb (87 + n) 57 (omega arith),
          le-ltb (87 + n) 65 (omega arith),
          lt-leb (87 + n) 70 (omega arith),
          le-ltb (87 + n) 97 (omega arith),
          le-leb (87 + n) 102 (omega arith),
        ) (omega arith)

text-of-digit : (n : ℕ) → n < 16 → IsText (hex_digit n)
unfolding hex_digit
text-of-digit n h = go (ltb n 10) refl
  where
    go : (b : Bool) → ltb n 10 ≡ b → IsText (cond b (48 + n) (87 + n))
    go true e = let l : n < 10 = ltb-true n 10 e in (omega arith, omega arith)
    go false e = (omega arith, omega arith)

-- ---- the digits of bytes

pub length-hex_text : (h : Bytes) → length (hex_text h) ≡ 2 * length h
unfolding hex_text
length-hex_text [] = refl
length-hex_text (b ∷ bs) = let e = length-hex_text bs in omega arith

hex-hex_text : (h : Bytes) → Each IsByte h → all_hex (hex_text h) ≡ true
unfolding hex_text all_hex
hex-hex_text [] s = refl
hex-hex_text (b ∷ bs) s =
    let l = s.0 in
    rw (
      value-of-digit (b / 16) (omega arith),
      value-of-digit (b % 16) (omega arith),
      lt-ltb (b / 16) 16 (omega arith),
      lt-ltb (b % 16) 16 (omega arith),
    ) (hex-hex_text bs s.1)

pub from_hex-hex_text : (h : Bytes) → Each IsByte h → from_hex (hex_text h) ≡ h
unfolding hex_text from_hex
from_hex-hex_text [] s = refl
from_hex-hex_text (b ∷ bs) s =
    let l = s.0 in
    let e : 16 * (b / 16) + b % 16 ≡ b = omega arith in
    rw (value-of-digit (b / 16) (omega arith), value-of-digit (b % 16) (omega arith), e, from_hex-hex_text bs s.1)

text-hex_text : (h : Bytes) → Each IsByte h → Each IsText (hex_text h)
unfolding hex_text
text-hex_text [] s = tt
text-hex_text (b ∷ bs) s =
    let l = s.0 in
    (text-of-digit (b / 16) (omega arith), (text-of-digit (b % 16) (omega arith), text-hex_text bs s.1))

-- ---- the canonical text

pub unprefixed-canonical : (h : Bytes) → unprefixed (canonical h) ≡ hex_text h
unfolding unprefixed canonical eq_bytes
unprefixed-canonical h = refl

module _ (h : Bytes) (long : length h ≡ 32) (s : Each IsByte h) where
  pub length-canonical : length (canonical h) ≡ 66
  unfolding canonical
  length-canonical = let e = length-hex_text h in omega arith

  pub text-canonical : Each IsText (canonical h)
  unfolding canonical
  text-canonical = ((omega arith, omega arith), ((omega arith, omega arith), text-hex_text h s))

  pub parses-canonical : parses (canonical h) ≡ true
  unfolding parses
  parses-canonical =
      let e = length-hex_text h in
      rw (unprefixed-canonical h, eq-eqb (length (hex_text h)) 64 (omega arith)) (hex-hex_text h s)

  pub parse_hash-canonical : parse_hash (canonical h) ≡ Some h
  unfolding parse_hash
  parse_hash-canonical = rw (parses-canonical, unprefixed-canonical h, from_hex-hex_text h s)
