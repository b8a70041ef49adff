-- A list written into another one element at a time, and a list that grows by what is written behind it.
use Prim.Native.Nat.{ℕ, suc, ◌+◌, ◌≤◌, ◌<◌}
use native.Mathlib.Numerals.{add-one}
use native.Mathlib.Omega.{arith}
use mathlib.Core.Path.{◌≡◌, ◌∙◌}
use mathlib.Core.List.{List, [], ◌∷◌, ◌++◌, append_assoc}
use lib.ListN.{length, take, drop, set}
use lib.Seq.{paste, take-paste, take_all, take-suc-set, set_split}

-- one element
pub paste-one : (d : List ℕ) (at b : ℕ) → at < length d → set d at b ≡ paste d at (b ∷ []) 1
paste-one d at b h = rw (set_split d at b h, add-one at, append_assoc (take at d) (b ∷ []) (drop (suc at) d))

-- a list of which the first `at` elements are known
pub grown : (d : List ℕ) (at : ℕ) (s front : List ℕ) (n : ℕ) → at ≤ length d → length s ≡ n → take at d ≡ front → take (at + n) (paste d at s n) ≡ front ++ s
grown d at s front n h l e = take-paste d at s n h (omega arith) ∙ rw (e, take_all n s (omega arith))

pub grown-one : (d : List ℕ) (at b : ℕ) (front : List ℕ) → at < length d → take at d ≡ front → take (at + 1) (set d at b) ≡ front ++ (b ∷ [])
grown-one d at b front h e = rw (add-one at, take-suc-set d at b h, e)
