-- Numbers as bytes, little-endian.
use Rattle.std.specs.Prelude.{ℕ, zero, suc, ◌+◌, ◌*◌, ◌/◌, ◌%◌, [], ◌∷◌}
use Rattle.lists.specs.Bytes.{Bytes}

-- the number that bytes stand for
unfoldable pub num : Bytes → ℕ
num [] = 0
num (b ∷ bs) = b + 256 * num bs

-- the bytes of a number, so many
unfoldable pub digits : ℕ → ℕ → Bytes
digits zero n = []
digits (suc w) n = (n % 256) ∷ digits w (n / 256)
