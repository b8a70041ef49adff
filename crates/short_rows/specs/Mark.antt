-- Request 2027-03: the mark of a short row, and the nonces that it stands for.
use Rattle.std.specs.Prelude.{ℕ, zero, suc, ◌+◌, ◌*◌, ◌/◌, ◌%◌, Bool, true, false, cond, List, [], ◌∷◌, eqb}
use Rattle.lists.specs.Lists.{is_in}

-- ---- nonces to a mark

unfoldable pub bit : Bool → ℕ
bit true = 1
bit false = 0

-- so many bits, lowest first, for the nonces from n on: a bit is set if its nonce is listed
unfoldable pub bits_from : ℕ → ℕ → List ℕ → ℕ
bits_from zero n l = 0
bits_from (suc k) n l = bit (is_in n l) + 2 * bits_from k (suc n) l

-- 16 bits: bit i stands for nonce expected + i, and is set for the nonces listed
unfoldable pub mark_of : ℕ → List ℕ → ℕ
mark_of expected l = bits_from 16 expected l

-- ---- a mark to its nonces

-- the nonces from n on whose bits, so many, are set, ascending
unfoldable pub set_from : ℕ → ℕ → ℕ → List ℕ
set_from zero n bits = []
set_from (suc k) n bits = cond (eqb (bits % 2) 1) (n ∷ set_from k (suc n) (bits / 2)) (set_from k (suc n) (bits / 2))

unfoldable pub marked_nonces : ℕ → ℕ → List ℕ
marked_nonces expected mark = set_from 16 expected mark
