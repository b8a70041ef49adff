-- Where a list ends, and its numbers one by one.
use Prim.Native.Nat.{ℕ, zero, suc, ◌+◌, ◌*◌, ◌-◌, min, ◌≤◌, ◌<◌}
use native.Mathlib.Numerals.{add-one}
use native.Mathlib.Omega.{arith}
use mathlib.Core.Path.{◌≡◌, refl, sym, ap, ◌∙◌}
use mathlib.Core.List.{List, [], ◌∷◌, ◌++◌}
use lib.ListN.{length, take, drop, get_or, set, length-take, length-map, get_or-map}
use lib.Seq.{get_or-drop, take_all, take-suc, take-suc-set, take-append_seam}
use borrow.Author.Tests.{le-leb, lt-leb}
use Rattle.std.specs.Prelude.{None, Some}
use Rattle.lists.specs.Bytes.{Bytes}
use Rattle.lists.specs.Lists.{chunks}
use Rattle.lists.proofs.Chunks.{chunks-at, chunks-length}
use Rattle.lists.proofs.Parts.{part-part}
use Rattle.wire.specs.Numbers.{num}
use Rattle.wire.proofs.NumberTurns.{num-front}
use Rattle.trace_parts.specs.Parts.{count_at, place_in, bytes_at, numbers_at, PutsNumbers}

-- ---- the place

pub ends-out : (bs : Bytes) (end : ℕ) → length bs < end → None ≡ place_in bs end
ends-out bs end h = rw (lt-leb end (length bs) h)

pub ends-in : (bs : Bytes) (end found : ℕ) → end ≤ length bs → found ≡ end → Some found ≡ place_in bs end
ends-in bs end found h e = rw (le-leb end (length bs) h, e)

-- ---- the count

pub count_small : (at : ℕ) (bs : Bytes) → ((i : ℕ) → get_or bs i 0 < 256) → count_at at bs < 65536
count_small at bs h = num-front 2 (drop at bs) (λ i. rw (get_or-drop at bs i 0) (h (at + i)))

-- ---- the numbers

module _ (at : ℕ) (bs : Bytes) where
  pub how-many : length (numbers_at at bs) ≡ count_at at bs
  how-many = length-map (chunks 8 (count_at at bs) (bytes_at 8 at bs)) num ∙ chunks-length 8 (count_at at bs) (bytes_at 8 at bs)

  -- each is what its eight bytes stand for
  pub number_in : (i : ℕ) → i < count_at at bs → num (take 8 (drop (at + 2 + 8 * i) bs)) ≡ get_or (numbers_at at bs) i 0
  unfolding num
  number_in i h =
      sym
      (get_or-map num (chunks 8 (count_at at bs) (bytes_at 8 at bs)) i []
      ∙ ap num (chunks-at 8 (count_at at bs) (bytes_at 8 at bs) i [] h ∙ part-part bs (at + 2) (8 * count_at at bs) (8 * i) 8 (omega arith)))

-- as many of a list as there are, or as there is room for
few-enough : (n room : ℕ) (l : List ℕ) → n ≡ min (length l) room → take room l ≡ take n l
few-enough n zero l e = let z : n ≡ 0 = omega arith in rw z
few-enough n (suc room) [] e = let z : n ≡ 0 = omega arith in rw z
few-enough n (suc room) (x ∷ l) e =
    let z : n ≡ suc (min (length l) room) = omega arith in
    rw z (ap (λ (r : List ℕ). x ∷ r) (few-enough (min (length l) room) room l refl))

-- ---- a loop that puts them to the front of a slice, as far as there is room

module _ (at : ℕ) (bs : Bytes) (items : List ℕ) (i : ℕ) (put : take i items ≡ take i (numbers_at at bs)) where
  pub put-turn : (n : ℕ) → i < length items → i < count_at at bs → n ≡ num (take 8 (drop (at + 2 + 8 * i) bs)) → take (i + 1) (set items i n) ≡ take (i + 1) (numbers_at at bs)
  put-turn n h k e =
      let v : n ≡ get_or (numbers_at at bs) i 0 = e ∙ number_in at bs i k in
      let d : i < length (numbers_at at bs) = omega (arith, how-many at bs) in
      rw (add-one i, take-suc-set items i n h, take-suc (numbers_at at bs) i 0 d, put, v)

  pub put-done : (slice : List ℕ) (n : ℕ) → n ≡ min (count_at at bs) (length slice) → length items ≤ i → i ≡ n → PutsNumbers at bs slice n (items ++ drop n slice)
  put-done slice n few all is =
      let l : length (take (length slice) (numbers_at at bs)) ≡ n = length-take (length slice) (numbers_at at bs) ∙ omega (arith, how-many at bs) in
      let same : take (length slice) (numbers_at at bs) ≡ items = few-enough n (length slice) (numbers_at at bs) (omega (arith, how-many at bs)) ∙ rw (← is, ← put) (take_all i items all) in
      record { count = sym l; slice_after = rw (l, same) }

-- what was put is at the front of the slice, and is lent from there
pub kept-front : (at : ℕ) (bs : Bytes) (slice : List ℕ) (n : ℕ) (slice' : List ℕ) → PutsNumbers at bs slice n slice' → take n slice' ≡ take (length slice) (numbers_at at bs)
kept-front at bs slice n slice' p = rw (p.count, p.slice_after) (take-append_seam (take (length slice) (numbers_at at bs)) _)

pub kept-fits : (at : ℕ) (bs : Bytes) (slice : List ℕ) (n : ℕ) (slice' : List ℕ) → PutsNumbers at bs slice n slice' → n ≤ length slice
kept-fits at bs slice n slice' p = omega (arith, p.count, length-take (length slice) (numbers_at at bs))
