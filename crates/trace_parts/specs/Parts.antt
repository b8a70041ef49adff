-- Lists in bytes, at a place.
use Rattle.std.specs.Prelude.{ℕ, ◌+◌, ◌*◌, ◌≡◌, cond, List, Option, None, Some, map, leb, length, take, drop}
use Rattle.lists.specs.Bytes.{Bytes}
use Rattle.lists.specs.Lists.{chunks, written}
use Rattle.wire.specs.Numbers.{num}

-- the count that leads a list
abbrev pub count_at : ℕ → Bytes → ℕ
count_at at bs = num (take 2 (drop at bs))

-- where a list ends, with so many bytes an element
abbrev pub list_end : ℕ → ℕ → Bytes → ℕ
list_end width at bs = at + 2 + width * count_at at bs

-- a place, or 0 if the bytes end before it
abbrev pub end_in : Bytes → ℕ → ℕ
end_in bs end = cond (leb end (length bs)) end 0

-- a place, or none if the bytes end before it
abbrev pub place_in : Bytes → ℕ → Option ℕ
place_in bs end = cond (leb end (length bs)) (Some end) None

-- the bytes of a list
abbrev pub bytes_at : ℕ → ℕ → Bytes → Bytes
bytes_at width at bs = take (width * count_at at bs) (drop (at + 2) bs)

-- a list of numbers
abbrev pub numbers_at : ℕ → Bytes → List ℕ
numbers_at at bs = map num (chunks 8 (count_at at bs) (bytes_at 8 at bs))

-- its numbers go to the front of a slice, as far as there is room
pub record PutsNumbers (at : ℕ) (bs : Bytes) (slice : List ℕ) (n : ℕ) (slice' : List ℕ) : Type 0 where
  pub count : n ≡ length (take (length slice) (numbers_at at bs))
  pub slice_after : slice' ≡ written (take (length slice) (numbers_at at bs)) slice
