-- The nonces that a poll can list of a frame are ascending, and lie in the first 16 of its gap.
use Prim.Native.Nat.{ℕ, zero, suc, ◌+◌, ◌-◌, ◌≤◌, min}
use native.Mathlib.Omega.{arith}
use mathlib.Core.Bool.{Bool, true, false, not, cond}
use mathlib.Core.List.{List, [], ◌∷◌}
use lib.Dec.{leb}
use lib.ListN.{length}
use Rattle.lists.specs.Lists.{keep, is_in, numbers_from}
use Rattle.short_rows.proofs.Marks.{Ascending, ascending-from, ascending-few}
use Rattle.store_rules.specs.Frames.{Frame}
use Rattle.store_rules.specs.Poll.{gap, predecessors, unknown}

numbers-ascending : (n m high : ℕ) → n + m ≤ high → Ascending n high (numbers_from n m)
unfolding numbers_from
numbers-ascending n zero high h = tt
numbers-ascending n (suc m) high h = (omega arith, omega arith, numbers-ascending (suc n) m high (omega arith))

keep-ascending : (p : ℕ → Bool) (low high : ℕ) (l : List ℕ) → Ascending low high l → Ascending low high (keep p l)
unfolding keep
keep-ascending p low high [] a = tt
keep-ascending p low high (x ∷ xs) a = go (p x) (keep-ascending p (suc x) high xs a.2)
  where
    go : (b : Bool) → Ascending (suc x) high (keep p xs) → Ascending low high (cond b (x ∷ keep p xs) (keep p xs))
    go true t = (a.0, a.1, t)
    go false t = ascending-from (suc x) low high (keep p xs) (omega (arith, a.0)) t

-- in the first 16 nonces of the frame's gap
abbrev pub InGap : Frame → List ℕ → Type 0
InGap f = Ascending f.expected (f.expected + min 16 (f.claim - f.expected))

module _ (head : ℕ) (f : Frame) where
  pub preds-in-gap : InGap f (predecessors head f)
  unfolding predecessors gap
  preds-in-gap =
      let m : ℕ = min 16 (f.claim - f.expected) in
      keep-ascending (λ n. leb head n) f.expected (f.expected + m) (numbers_from f.expected m) (numbers-ascending f.expected m (f.expected + m) (omega arith))

  pub unknown-in-gap : (known : List ℕ) → InGap f (unknown head known f)
  unfolding unknown
  unknown-in-gap known =
      keep-ascending (λ n. not (is_in n known)) f.expected (f.expected + min 16 (f.claim - f.expected)) (predecessors head f) preds-in-gap

-- so there are at most 16
pub gap-few : (f : Frame) (l : List ℕ) → InGap f l → length l ≤ 16
gap-few f l a =
    let m : ℕ = min 16 (f.claim - f.expected) in
    let h = ascending-few f.expected (f.expected + m) l (omega arith) a in
    omega arith
