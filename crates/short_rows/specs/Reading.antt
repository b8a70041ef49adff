-- What the functions that read a short row answer.
use Rattle.std.specs.Prelude.{ℕ, ◌^◌, ◌≡◌, Bool, List, ltb, length, replicate}
use Rattle.lists.specs.Lists.{keep, written}
use Rattle.short_rows.specs.Mark.{marked_nonces}
use Rattle.short_rows.specs.declared.Nonces.{Nonces}

-- a nonce has 64 bits
abbrev pub is_nonce : ℕ → Bool
is_nonce n = ltb n (2 ^ 64)

-- The nonces that are read from an expected nonce and a mark. No poll gives a mark with a bit for more than the last nonce; such a
-- bit is passed over.
unfoldable pub nonces_read : ℕ → ℕ → List ℕ
nonces_read expected mark = keep is_nonce (marked_nonces expected mark)

-- a list of nonces as it is returned: their number, and then zeros behind them
pub record Lists (l : List ℕ) (r : Nonces) : Type 0 where
  pub count : r.count ≡ length l
  pub at : r.at ≡ written l (replicate 16 0)
