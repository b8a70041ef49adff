-- How many numbers a row, and the rows of 64 entries, take in either form.
use Prim.Native.Nat.{ℕ, ◌*◌, ◌≤◌}
use native.Mathlib.Omega.{arith}
use mathlib.Core.Path.{◌≡◌, refl}
use lib.ListN.{length, replicate, length-append, length-drop}
use Rattle.lists.specs.Lists.{written}
use Rattle.store_rules.specs.Frames.{Row}
use Rattle.store_rules.specs.Store.{RowForm, long, short, row_width}
use Rattle.store_rules.specs.Answers.{row_numbers}

pub row-length : (form : RowForm) (r : Row) → length r.nonces ≤ 16 → length (row_numbers form r) ≡ row_width form
unfolding row_numbers row_width
row-length long r few =
    let n : length (written r.nonces (replicate 16 0)) ≡ 16 = simp (length-append, length-drop) (omega arith) in
    omega arith
row-length short r few = refl

-- the room for the rows of 64 entries
pub row_room : (form : RowForm) (n : ℕ) → n ≤ 64 → row_width form * n ≤ 1216
unfolding row_width
row_room long n h = omega arith
row_room short n h = omega arith
