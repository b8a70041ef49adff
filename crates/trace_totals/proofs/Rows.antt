-- The Rescue rows at the front of a slice, counted one by one.
use Prim.Native.Nat.{ℕ, suc, ◌+◌, ◌*◌, ◌≤◌, ◌<◌}
use native.Mathlib.Nat.{mul-le-mul_left, mul-suc}
use native.Mathlib.Numerals.{add-one}
use native.Mathlib.Omega.{arith}
use mathlib.Core.Path.{◌≡◌, refl}
use mathlib.Core.Bool.{Bool, true, false, cond}
use mathlib.Core.List.{List, [], ◌∷◌}
use lib.Dec.{eqb}
use lib.ListN.{length, drop, get_or, drop_of_length-le}
use lib.Seq.{drop-cons, get_or-take, get_or-drop}
use borrow.Author.Tests.{eq-eqb, ne_eqb}
use Rattle.lists.specs.Lists.{keep, chunks}
use Rattle.lists.proofs.Elements.{length-keep}
use Rattle.lists.proofs.Chunks.{chunks-length, chunks-at}
use Rattle.trace_totals.specs.Counting.{says_rescue, rescue_rows, Below}
use Rattle.trace_totals.specs.declared.Counts.{Counts}

-- the rows before place n take the room of one more than those before a place below it
pub row-place : (width n i : ℕ) → i < n → width * i + width ≤ width * n
row-place width n i h = omega (arith, mul-le-mul_left width h, mul-suc width i)

kept-length : {A : Type 0} (b : Bool) (x : A) (l : List A) → length (cond b (x ∷ l) l) ≡ cond b (suc (length l)) (length l)
kept-length true x l = refl
kept-length false x l = refl

module _ (rows : List ℕ) (width n : ℕ) where
  -- those from place i on
  abbrev pub from : ℕ → ℕ
  from i = length (keep says_rescue (drop i (chunks width n rows)))

  pub record Counted (count i : ℕ) : Type 0 where
    pub within : i ≤ n
    pub few : count ≤ i
    pub all : count + from i ≡ rescue_rows width n rows

  pub none_yet : Counted 0 0
  unfolding rescue_rows
  none_yet = record { within = omega arith; few = omega arith; all = omega arith }

  pub every_one : (count i : ℕ) → Counted count i → n ≤ i → (count ≡ rescue_rows width n rows) × (count ≤ n)
  unfolding keep
  every_one count i c h =
      let none : from i ≡ 0 = rw (drop_of_length-le (chunks width n rows) {i = i} (omega (arith, chunks-length width n rows))) in
      (omega (arith, c.all), omega (arith, c.few, c.within))

  module _ (i : ℕ) (wide : 2 ≤ width) (h : i < n) where
    turn : (b : Bool) → eqb (get_or rows (width * i + 1) 0) 1 ≡ b → from i ≡ cond b (suc (from (i + 1))) (from (i + 1))
    unfolding keep says_rescue
    turn b e =
        rw
        (add-one i, drop-cons (chunks width n rows) i [] (omega (arith, chunks-length width n rows)), chunks-at width n rows i [] h, get_or-take width (drop (width * i) rows) 1 0 (omega arith), get_or-drop (width * i) rows 1 0, e)
        (kept-length b _ _)

    -- a row that says Rescue is counted, another is not
    pub one_more : (count count' : ℕ) → Counted count i → get_or rows (width * i + 1) 0 ≡ 1 → count' ≡ count + 1 → Counted count' (i + 1)
    one_more count count' c is e = record { within = omega arith; few = omega (arith, c.few); all = omega (arith, c.all, turn true (eq-eqb _ 1 is)) }

    pub no_more : (count count' : ℕ) → Counted count i → (get_or rows (width * i + 1) 0 ≡ 1 → ⊥) → count' ≡ count → Counted count' (i + 1)
    no_more count count' c other e = record { within = omega arith; few = omega (arith, c.few); all = omega (arith, c.all, turn false (ne_eqb _ 1 other)) }

pub rescue-rows-few : (width n : ℕ) (rows : List ℕ) → rescue_rows width n rows ≤ n
unfolding rescue_rows
rescue-rows-few width n rows = omega (arith, length-keep says_rescue (chunks width n rows), chunks-length width n rows)

-- ---- room

pub fewer : (c : Counts) (n m : ℕ) → m ≤ n → Below c n → Below c m
fewer c n m h b = record { accepts = omega (arith, b.accepts); rescues = omega (arith, b.rescues); kills = omega (arith, b.kills); evicts = omega (arith, b.evicts) }
