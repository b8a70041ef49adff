-- Hashes as text: which texts parse, to what, and the canonical text.
use Rattle.std.specs.Prelude.{ℕ, ◌+◌, ◌*◌, ◌-◌, ◌/◌, ◌%◌, Bool, true, ◌&&◌, cond, [], ◌∷◌, eqb, leb, ltb, length, take, drop}
use Rattle.std.specs.Prelude.{Option, None, Some}
use Rattle.lists.specs.Bytes.{Bytes, eq_bytes}
use Rattle.lists.specs.Lists.{numbers_from}

-- every byte once, from 0 on
abbrev pub every_byte : Bytes
every_byte = numbers_from 0 256

-- the value of a hex digit of either case; 16 where the byte is no digit
unfoldable pub hex_value : ℕ → ℕ
hex_value b =
    cond (ltb b 48) 16
    (cond (leb b 57) (b - 48)
    (cond (ltb b 65) 16
    (cond (leb b 70) (b - 55)
    (cond (ltb b 97) 16
    (cond (leb b 102) (b - 87) 16)))))

-- the lowercase digit of a number below 16
unfoldable pub hex_digit : ℕ → ℕ
hex_digit n = cond (ltb n 10) (48 + n) (87 + n)

-- a byte's two lowercase digits
abbrev pub hex_pair : ℕ → Bytes
hex_pair b = hex_digit (b / 16) ∷ hex_digit (b % 16) ∷ []

-- two lowercase digits a byte
unfoldable pub hex_text : Bytes → Bytes
hex_text [] = []
hex_text (b ∷ bs) = hex_digit (b / 16) ∷ hex_digit (b % 16) ∷ hex_text bs

-- ASCII 0x
abbrev pub prefix : Bytes
prefix = 48 ∷ 120 ∷ []

-- document 01's canonical text: 0x and 64 lowercase digits
unfoldable pub canonical : Bytes → Bytes
canonical h = 48 ∷ 120 ∷ hex_text h

-- what stands after at most one leading 0x
unfoldable pub unprefixed : Bytes → Bytes
unprefixed t = cond (eq_bytes (take 2 t) prefix) (drop 2 t) t

unfoldable pub all_hex : Bytes → Bool
all_hex [] = true
all_hex (b ∷ bs) = ltb (hex_value b) 16 && all_hex bs

-- a byte for two digits
unfoldable pub from_hex : Bytes → Bytes
from_hex [] = []
from_hex (a ∷ []) = []
from_hex (a ∷ b ∷ t) = (16 * hex_value a + hex_value b) ∷ from_hex t

-- 64 hex digits, of either case, with one 0x or none in front
unfoldable pub parses : Bytes → Bool
parses t = eqb (length (unprefixed t)) 64 && all_hex (unprefixed t)

unfoldable pub parse_hash : Bytes → Option Bytes
parse_hash t = cond (parses t) (Some (from_hex (unprefixed t))) None
