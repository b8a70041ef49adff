-- Numbers one after another, and a table of a function at them.
use Prim.Native.Nat.{ℕ, zero, suc, ◌+◌, ◌-◌, ◌<◌}
use native.Mathlib.Nat.{add-zero, add-suc, suc-add}
use native.Mathlib.Omega.{arith}
use mathlib.Core.Path.{◌≡◌}
use mathlib.Core.List.{◌∷◌, map}
use lib.ListN.{get_or}
use Rattle.lists.specs.Lists.{numbers_from}

-- the next of the m numbers from n on, after i of them
pub numbers_on : (n m i : ℕ) → i < m → numbers_from (n + i) (m - i) ≡ (n + i) ∷ numbers_from (n + (i + 1)) (m - (i + 1))
unfolding numbers_from
numbers_on n m i h =
    let e : m - i ≡ suc (m - (i + 1)) = omega arith in
    let f : n + (i + 1) ≡ suc (n + i) = omega arith in
    rw (e, f)

pub table_at : (f : ℕ → ℕ) (n m i d : ℕ) → i < m → get_or (map f (numbers_from n m)) i d ≡ f (n + i)
unfolding numbers_from
table_at f n zero i d h = absurd (omega arith)
table_at f n (suc m) zero d h = rw (add-zero)
table_at f n (suc m) (suc i) d h = rw (add-suc) (rw (suc-add) at (table_at f (suc n) m i d (omega arith)))
