-- The loops of a sweep that count the entries of its senders.
use Prim.Native.Nat.{ℕ, suc, ◌+◌, ◌/◌, ◌≤◌, ◌<◌}
use native.Mathlib.Numerals.{add-one}
use native.Mathlib.Omega.{arith}
use mathlib.Core.Path.{◌≡◌, ap, ◌∙◌}
use borrow.Author.Tests.{ne_eqb}
use mathlib.Core.Bool.{Bool, true, false, cond}
use mathlib.Core.List.{List, ◌++◌, map}
use denote.Ref.{Bor}
use lib.ListN.{length, take, drop, get_or, length-append, drop_of_length-le}
use lib.Seq.{drop-cons, take-append_seam, drop-append_seam}
use Rattle.std.specs.Prelude.{None, Some}
use Rattle.std.specs.declared.slice.ChunksExact.{ChunksExact}
use Rattle.std.specs.Slice.Iter.{chunks_exact_rest, chunks_exact_size, chunks_exact_steps}
use Rattle.lists.specs.Bytes.{Bytes, eq_bytes}
use Rattle.lists.specs.Lists.{keep, sum, chunks}
use Rattle.lists.proofs.Sums.{rows-and-columns}
use Rattle.lists.proofs.Turns.{eq-turn}
use Rattle.store_rules.specs.Frames.{Entry}
use Rattle.store_rules.specs.Lookup.{entries_of}
use Rattle.store_rules.specs.Sweeps.{listed_entries}
use Rattle.store_rules.specs.View.{entry_of}
use Rattle.store_rules.specs.declared.Entry as coded

-- ---- how many of the senders have an address

-- how many of whole senders have it
abbrev pub times : Bytes → Bytes → ℕ
times address senders = length (keep (λ a. eq_bytes address a) (chunks 20 (length senders / 20) senders))

-- what is left of the senders still has to be counted
pub record Times (address senders : Bytes) (s : ChunksExact ℕ) (n : ℕ) : Type 0 where
  pub so_far : n + times address (chunks_exact_rest s) ≡ times address senders
  pub size : chunks_exact_size s ≡ 20
  pub few : n + length (chunks_exact_rest s) / 20 ≤ length senders / 20

pub times-begin : (address senders : Bytes) (s : ChunksExact ℕ) → chunks_exact_rest s ≡ senders → chunks_exact_size s ≡ 20 → Times address senders s 0
times-begin address senders s e z = record { so_far = rw e (omega arith); size = z; few = rw e (omega arith) }

-- two addresses that differ in the first byte
pub first-differs : (a x : Bytes) → 0 < length a → 0 < length x → (get_or a 0 0 ≡ get_or x 0 0 → ⊥) → eq_bytes a x ≡ false
first-differs a x h g n = eq-turn a x 0 h g ∙ rw (ne_eqb (get_or a 0 0) (get_or x 0 0) n)

module _ (address senders : Bytes) (s t : ChunksExact ℕ) (n : ℕ) (w : Times address senders s n) where
  module _ (x : Bor Bytes) (step : chunks_exact_steps s (Some x) t) where
    pub wide : length x.now ≡ 20
    wide = step.1.1 ∙ w.size

    count : length (chunks_exact_rest s) / 20 ≡ suc (length (chunks_exact_rest t) / 20)
    count =
        let e : length (chunks_exact_rest s) ≡ length x.now + length (chunks_exact_rest t) = ap length step.1.0 ∙ length-append x.now (chunks_exact_rest t) in
        omega (arith, e, wide)

    front : take 20 (x.now ++ chunks_exact_rest t) ≡ x.now
    front = rw (← wide) (take-append_seam x.now (chunks_exact_rest t))

    back : drop 20 (x.now ++ chunks_exact_rest t) ≡ chunks_exact_rest t
    back = rw (← wide) (drop-append_seam x.now (chunks_exact_rest t))

    one : (b : Bool) → eq_bytes address x.now ≡ b → times address (chunks_exact_rest s) ≡ cond b 1 0 + times address (chunks_exact_rest t)
    unfolding chunks keep
    one true e = rw (count, step.1.0, front, back, e) (omega arith)
    one false e = rw (count, step.1.0, front, back, e) (omega arith)

    pub time-more : eq_bytes address x.now ≡ true → Times address senders t (n + 1)
    time-more e = record { so_far = omega (arith, w.so_far, one true e); size = step.0 ∙ w.size; few = omega (arith, w.few, count) }

    pub no-time : eq_bytes address x.now ≡ false → Times address senders t n
    no-time e = record { so_far = omega (arith, w.so_far, one false e); size = step.0 ∙ w.size; few = omega (arith, w.few, count) }

  pub times-end : chunks_exact_steps s None t → n ≡ times address senders
  unfolding chunks keep
  times-end step =
      let z : length (chunks_exact_rest s) / 20 ≡ 0 = omega (arith, step.1.0, w.size) in
      omega (arith, rw z at w.so_far)

-- ---- the entries of all senders

-- how often an entry's sender is listed among the first n
abbrev pub listings : Bytes → ℕ → Entry → ℕ
listings senders n e = length (keep (λ a. eq_bytes e.frame.from a) (chunks 20 n senders))

-- an entry counts as often as its sender is listed
pub listed-by-entry : (senders : Bytes) (n : ℕ) (es : List Entry) → listed_entries senders n es ≡ sum (map (listings senders n) es)
unfolding listed_entries entries_of
listed-by-entry senders n es = rows-and-columns (λ (a : Bytes) (e : Entry). eq_bytes e.frame.from a) (chunks 20 n senders) es

-- of the entries from place i on
abbrev pub listed_left : Bytes → List coded.Entry → ℕ → ℕ
listed_left senders es i = sum (map (listings senders (length senders / 20)) (map entry_of (drop i es)))

module _ (senders : Bytes) (es : List coded.Entry) (i : ℕ) where
  pub entry_more : (d : coded.Entry) (k : ℕ) → i < length es → k ≡ listings senders (length senders / 20) (entry_of (get_or es i d)) → listed_left senders es i ≡ k + listed_left senders es (i + 1)
  unfolding sum
  entry_more d k h e = rw (add-one, drop-cons es i d h, e)

  pub entries-end : length es ≤ i → listed_left senders es i ≡ 0
  unfolding sum
  entries-end h = rw (drop_of_length-le es h)
