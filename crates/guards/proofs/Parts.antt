-- A part of a list that is written over by a copy of another list, or of another part of the same.
use Prim.Native.Nat.{ℕ, ◌+◌, ◌-◌, ◌≤◌}
use native.Mathlib.Omega.{arith}
use mathlib.Core.Path.{◌≡◌}
use mathlib.Core.List.{List, ◌++◌, append_assoc}
use Rattle.std.specs.List.{copy_within}
use lib.ListN.{length, take, drop, length-take, length-drop}
use lib.Seq.{drop-drop}
use Rattle.lists.specs.Lists.{written_at}

-- so many elements from a place on, which are as many as the list has
pub part-put : (at n : ℕ) (v l : List ℕ) → length v ≡ n → take at l ++ (v ++ drop n (drop at l)) ≡ written_at at v l
part-put at n v l e = rw e

pub part-moved : (from to n : ℕ) (l : List ℕ) → from + n ≤ length l → copy_within l from (from + n) to ≡ written_at to (take n (drop from l)) l
part-moved from to n l room =
    let k : from + n - from ≡ n = omega arith in
    let size : length (take n (drop from l)) ≡ n = simp (length-take, length-drop) (omega arith) in
    rw (k, size, drop-drop n to l, append_assoc)
