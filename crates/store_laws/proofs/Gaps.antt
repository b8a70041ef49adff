-- The gap of a frame that push accepts (`gap-is-whole`).
use Prim.Native.Nat.{ℕ, zero, suc, ◌+◌, ◌-◌, min}
use native.Mathlib.Omega.{arith}
use mathlib.Core.Path.{◌≡◌, refl, ap}
use mathlib.Core.Bool.{Bool, true, false, ◌&&◌, ◌||◌}
use lib.Dec.{eqb, leb, ltb}
use borrow.Author.Tests.{eqb-true, eqb-false, leb-true, leb-false, ltb-true, ltb-false, le-leb, lt-leb, lt-ltb, le-ltb}
use Rattle.lists.specs.Lists.{is_in, numbers_from}
use Rattle.store_rules.specs.Poll.{gap}
use Rattle.store_rules.specs.Store.{wide_gap}
use Rattle.store_laws.specs.Reachable.{GapIsWhole}

numbers-in : (n k count : ℕ) → is_in n (numbers_from k count) ≡ (leb k n && ltb n (k + count))
unfolding is_in numbers_from
numbers-in n k zero = go (leb k n) refl
  where
    go : (b : Bool) → leb k n ≡ b → false ≡ (b && ltb n (k + 0))
    go true p = let l = leb-true k n p in rw (le-ltb n (k + 0) (omega arith))
    go false p = refl
numbers-in n k (suc count) = rw (numbers-in n (suc k) count) (go (eqb k n) refl (leb k n) refl)
  where
    go : (c : Bool) → eqb k n ≡ c → (b : Bool) → leb k n ≡ b → (c || (leb (suc k) n && ltb n (suc k + count))) ≡ (b && ltb n (k + suc count))
    go true p true q = let e = eqb-true k n p in rw (lt-ltb n (k + suc count) (omega arith))
    go true p false q = let e = eqb-true k n p in let l = leb-false k n q in absurd (omega arith)
    go false p true q =
        let d = eqb-false k n p in let l = leb-true k n q in rw (le-leb (suc k) n (omega arith)) (ap (ltb n) (omega arith))
    go false p false q = let l = leb-false k n q in rw (lt-leb (suc k) n (omega arith))

-- up to claim, which may be below expected
up_to : (n expected claim : ℕ) → (leb expected n && ltb n (expected + (claim - expected))) ≡ (leb expected n && ltb n claim)
up_to n expected claim = go (leb expected n) refl (ltb n claim) refl
  where
    go : (b : Bool) → leb expected n ≡ b → (c : Bool) → ltb n claim ≡ c → (b && ltb n (expected + (claim - expected))) ≡ (b && c)
    go true p true q = let l = leb-true expected n p in let m = ltb-true n claim q in lt-ltb n (expected + (claim - expected)) (omega arith)
    go true p false q = let l = leb-true expected n p in let m = ltb-false n claim q in le-ltb n (expected + (claim - expected)) (omega arith)
    go false p c q = refl

pub gap-is-whole : GapIsWhole
unfolding gap wide_gap
gap-is-whole f h =
    let l = ltb-false 16 (f.claim - f.expected) h in
    let e : min 16 (f.claim - f.expected) ≡ f.claim - f.expected = omega arith in
    record {
      ascending = ap (numbers_from f.expected) e;
      every = λ n. rw (e, numbers-in n f.expected (f.claim - f.expected)) (up_to n f.expected f.claim);
    }
