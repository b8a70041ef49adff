-- The predecessors of a frame: the numbers from the head or the expected nonce on, one by one.
use Prim.Native.Nat.{ℕ, zero, suc, ◌+◌, ◌-◌, ◌≤◌, ◌<◌, min, max}
use native.Mathlib.Nat.{add-zero, add-suc, suc-add}
use native.Mathlib.Omega.{arith}
use mathlib.Core.Path.{◌≡◌, refl, ap, ◌∙◌}
use mathlib.Core.Bool.{Bool, true, false, cond}
use mathlib.Core.List.{List, [], ◌∷◌, ◌++◌, append-nil}
use lib.Dec.{leb}
use borrow.Author.Tests.{leb-true, leb-false}
use Rattle.lists.specs.Lists.{keep, is_empty, numbers_from}
use Rattle.lists.proofs.Keeping.{keep_append}
use Rattle.store_rules.specs.Frames.{Frame}
use Rattle.store_rules.specs.Poll.{gap, predecessors}

-- the first of a frame's predecessors, and the nonce after the last
abbrev pub first_from : ℕ → Frame → ℕ
first_from head f = max f.expected head

abbrev pub end_of : Frame → ℕ
end_of f = f.expected + min 16 (f.claim - f.expected)

-- those of the numbers from n on that are at least the head
from-head : (head n m : ℕ) → keep (λ k. leb head k) (numbers_from n m) ≡ numbers_from (max n head) (n + m - max n head)
unfolding keep numbers_from
from-head head n zero = let z : n + 0 - max n head ≡ 0 = omega arith in rw z
from-head head n (suc m) = go (leb head n) refl (from-head head (suc n) m)
  where
    go : (t : Bool) → leb head n ≡ t → keep (λ k. leb head k) (numbers_from (suc n) m) ≡ numbers_from (max (suc n) head) (suc n + m - max (suc n) head) →
        cond t (n ∷ keep (λ k. leb head k) (numbers_from (suc n) m)) (keep (λ k. leb head k) (numbers_from (suc n) m)) ≡ numbers_from (max n head) (n + suc m - max n head)
    go true t ih =
        let h : head ≤ n = leb-true head n t in
        let a : max (suc n) head ≡ suc n = omega arith in
        let b : max n head ≡ n = omega arith in
        let c : suc n + m - suc n ≡ m = omega arith in
        let d : n + suc m - n ≡ suc m = omega arith in
        rw (b, d) (ap {B = List ℕ} (λ r. n ∷ r) (rw (a, c) at ih))
    go false t ih =
        let h : n < head = leb-false head n t in
        let a : max (suc n) head ≡ head = omega arith in
        let b : max n head ≡ head = omega arith in
        let c : suc n + m ≡ n + suc m = omega arith in
        rw b (rw (a, c) at ih)

pub preds-are : (head : ℕ) (f : Frame) → predecessors head f ≡ numbers_from (first_from head f) (end_of f - first_from head f)
unfolding gap predecessors
preds-are head f = from-head head f.expected (min 16 (f.claim - f.expected))

-- ---- gathered from the front

numbers_more : (n i : ℕ) → numbers_from n (i + 1) ≡ numbers_from n i ++ ((n + i) ∷ [])
unfolding numbers_from
numbers_more n zero = rw (add-zero)
numbers_more n (suc i) = rw (suc-add) (ap {B = List ℕ} (λ r. n ∷ r) (numbers_more (suc n) i ∙ rw (suc-add, add-suc)))

-- of the numbers from a on and below n, those that pass the test
abbrev pub passing : (ℕ → Bool) → ℕ → ℕ → List ℕ
passing p a n = keep p (numbers_from a (n - a))

module _ (p : ℕ → Bool) (a n : ℕ) (h : a ≤ n) where
  more : numbers_from a (n + 1 - a) ≡ numbers_from a (n - a) ++ (n ∷ [])
  more =
      let i : n + 1 - a ≡ n - a + 1 = omega arith in
      let j : a + (n - a) ≡ n = omega arith in
      rw (i, numbers_more a (n - a), j)

  pub pass-hit : p n ≡ true → passing p a (n + 1) ≡ passing p a n ++ (n ∷ [])
  unfolding keep
  pass-hit t = rw (more, keep_append, t)

  pub pass-miss : p n ≡ false → passing p a (n + 1) ≡ passing p a n
  unfolding keep
  pass-miss t = rw (more, keep_append, t, append-nil)

-- where the walk stops, also if there is nothing to walk
pub pass-all : (p : ℕ → Bool) (a b n : ℕ) → a ≤ n → n ≤ max a b → b ≤ n → passing p a n ≡ passing p a b
pass-all p a b n h m k = let e : n - a ≡ b - a = omega arith in rw e

-- ---- whether any passes

-- of the numbers from n on and below b, those that pass the test
abbrev pub left : (ℕ → Bool) → ℕ → ℕ → List ℕ
left p n b = keep p (numbers_from n (b - n))

module _ (p : ℕ → Bool) (n b : ℕ) where
  next : n < b → numbers_from n (b - n) ≡ n ∷ numbers_from (n + 1) (b - (n + 1))
  unfolding numbers_from
  next h =
      let e : b - n ≡ suc (b - (n + 1)) = omega arith in
      let f : n + 1 ≡ suc n = omega arith in
      rw (e, f)

  pub left-hit : n < b → p n ≡ true → is_empty (left p n b) ≡ false
  unfolding keep is_empty
  left-hit h t = rw (next h, t)

  pub left-miss : n < b → p n ≡ false → left p n b ≡ left p (n + 1) b
  unfolding keep
  left-miss h t = rw (next h, t)

  pub left-none : b ≤ n → is_empty (left p n b) ≡ true
  unfolding keep is_empty numbers_from
  left-none h = let z : b - n ≡ 0 = omega arith in rw z
