-- The bytes that wait to be written, 4,096 at most. What is written is no part of the logic, and what waits is: after texts were put, one by
-- one, and where they are numbers and bytes as digits.
use Rattle.std.specs.Prelude.{ℕ, zero, suc, ◌-◌, ◌/◌, cond, List, [], ◌∷◌, ◌++◌, leb, ltb, length, take}
use Rattle.lists.specs.Bytes.{Bytes}
use Rattle.wire.specs.HashText.{hex_pair}
use Rattle.io.specs.Digits.{last_digits}
use Rattle.console.specs.declared.output.Output.{Output}

-- the bytes that wait
unfoldable pub waits : Output → Bytes
waits o = take o.count o.bytes

-- what waits once a text was put after w; where it does not fit there, w is written first, and a text that fits nowhere is too
unfoldable pub behind : Bytes → Bytes → Bytes
behind w t = cond (leb (length t) (4096 - length w)) (w ++ t) (cond (leb (length t) 4096) t [])

-- what waits after several texts were put, one by one
unfoldable pub all_behind : Bytes → List Bytes → Bytes
all_behind w [] = w
all_behind w (t ∷ ts) = all_behind (behind w t) ts

-- how many decimal digits a number has, if they are at most one more than f
unfoldable pub places : ℕ → ℕ → ℕ
places zero n = 1
places (suc f) n = cond (ltb n 10) 1 (suc (places f (n / 10)))

-- the decimal digits of a number of 64 bits
unfoldable pub decimal : ℕ → Bytes
decimal n = last_digits 10 (places 19 n) n

-- the two lowercase hex digits of each byte
unfoldable pub pairs : Bytes → List Bytes
pairs [] = []
pairs (b ∷ bs) = hex_pair b ∷ pairs bs

-- a word, a space and a number
unfoldable pub counted : Bytes → ℕ → List Bytes
counted word n = word ∷ (32 ∷ []) ∷ decimal n ∷ []
