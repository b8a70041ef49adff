-- Reading at a place of the bytes: a part that is there, one that is not, a byte, and a list.
use Prim.Native.Nat.{ℕ, ◌+◌, ◌*◌, ◌-◌, ◌≤◌, ◌<◌}
use native.Mathlib.Omega.{arith}
use mathlib.Core.Path.{◌≡◌, refl, ap, ◌∙◌}
use mathlib.Core.Bool.{Bool, true, false, cond}
use Rattle.std.specs.Prelude.{Some, None}
use lib.Dec.{leb}
use lib.ListN.{length, take, drop, get_or, length-drop}
use lib.Seq.{drop-drop, drop-cons}
use borrow.Author.Tests.{le-leb, lt-leb, leb-true, leb-false}
use Rattle.lists.specs.Bytes.{Bytes}
use Rattle.lists.proofs.Options.{some-injective, none-ne-some, some-ne-none}
use Rattle.wire.specs.Numbers.{num}
use Rattle.trace_format.specs.Reading.{Read, cut_short, part, byte, list}
use Rattle.trace_format.specs.Standing.{NotRead}
use Rattle.trace_parts.specs.Parts.{count_at, list_end, bytes_at, place_in}

-- ---- a part

module _ {A : Type 0} (n at : ℕ) (bs : Bytes) (next : Bytes → Bytes → Read A) where
  pub part_in : n ≤ length bs - at → part n (drop at bs) next ≡ next (take n (drop at bs)) (drop (at + n) bs)
  unfolding part
  part_in h = rw (le-leb n (length (drop at bs)) (omega (arith, length-drop at bs)), drop-drop n at bs)

  part_out : length bs - at < n → part n (drop at bs) next ≡ cut_short
  unfolding part
  part_out h = rw (lt-leb n (length (drop at bs)) (omega (arith, length-drop at bs)))

  -- if what follows reads nothing, neither does the whole
  pub part-not : (n ≤ length bs - at → NotRead (next (take n (drop at bs)) (drop (at + n) bs))) → NotRead (part n (drop at bs) next)
  part-not f = go (leb n (length bs - at)) refl
    where
      go : (b : Bool) → leb n (length bs - at) ≡ b → NotRead (part n (drop at bs) next)
      go true e = rw (part_in (leb-true n (length bs - at) e)) (f (leb-true n (length bs - at) e))
      go false e = rw (part_out (leb-false n (length bs - at) e)) tt

  pub part-still : NotRead (next (take n (drop at bs)) (drop (at + n) bs)) → NotRead (part n (drop at bs) next)
  part-still f = part-not (λ h. f)

-- ---- a byte

module _ {A : Type 0} (at : ℕ) (bs : Bytes) (next : ℕ → Bytes → Read A) where
  one_byte : at < length bs → num (take 1 (drop at bs)) ≡ get_or bs at 0
  unfolding num
  one_byte h = rw (drop-cons bs at 0 h) (omega arith)

  pub byte-in : at < length bs → byte (drop at bs) next ≡ next (get_or bs at 0) (drop (at + 1) bs)
  unfolding byte
  byte-in h = part_in 1 at bs (λ b. next (num b)) (omega arith) ∙ ap (λ (b : ℕ). next b (drop (at + 1) bs)) (one_byte h)

  pub byte-not : (at < length bs → NotRead (next (get_or bs at 0) (drop (at + 1) bs))) → NotRead (byte (drop at bs) next)
  unfolding byte
  byte-not f = part-not 1 at bs (λ b. next (num b)) (λ h. rw (one_byte (omega arith)) (f (omega arith)))

-- ---- a list

module _ {A : Type 0} (width at : ℕ) (bs : Bytes) (next : ℕ → Bytes → Bytes → Read A) where
  pub list-in : list_end width at bs ≤ length bs → list width (drop at bs) next ≡ next (count_at at bs) (bytes_at width at bs) (drop (list_end width at bs) bs)
  unfolding list
  list-in h = part_in 2 at bs _ (omega arith) ∙ part_in (width * count_at at bs) (at + 2) bs _ (omega arith)

  pub list-not : (list_end width at bs ≤ length bs → NotRead (next (count_at at bs) (bytes_at width at bs) (drop (list_end width at bs) bs))) →
      NotRead (list width (drop at bs) next)
  unfolding list
  list-not f = part-not 2 at bs _ (λ g. part-not (width * count_at at bs) (at + 2) bs _ (λ h. f (omega arith)))

-- ---- an end that was found, or none

module _ (bs : Bytes) (end : ℕ) where
  pub end-found : (found : ℕ) → Some found ≡ place_in bs end → (found ≡ end) × (end ≤ length bs)
  end-found found e = go (leb end (length bs)) refl e
    where
      go : (b : Bool) → leb end (length bs) ≡ b → Some found ≡ cond b (Some end) None → (found ≡ end) × (end ≤ length bs)
      go true t h = (some-injective _ _ h, leb-true end (length bs) t)
      go false t h = absurd (some-ne-none _ h)

  pub not_found : None ≡ place_in bs end → length bs < end
  not_found e = go (leb end (length bs)) refl e
    where
      go : (b : Bool) → leb end (length bs) ≡ b → None ≡ cond b (Some end) None → length bs < end
      go true t h = absurd (none-ne-some _ h)
      go false t h = leb-false end (length bs) t
