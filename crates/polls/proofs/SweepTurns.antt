-- The loop of a sweep's polls: what is left of them, run from the present store, comes to what all of them come to.
use Prim.Native.Nat.{ℕ, ◌+◌, ◌*◌, ◌-◌, ◌≤◌}
use native.Mathlib.Omega.{arith}
use mathlib.Core.Path.{◌≡◌, refl, sym, ap, ◌∙◌}
use mathlib.Core.List.{List, [], ◌∷◌, ◌++◌, append-nil}
use Rattle.std.specs.Prelude.{None, Some}
use lib.ListN.{length, take, drop, length-append, length-drop, drop_of_length-le, take-append-drop}
use lib.Seq.{take-append_seam, drop-append_seam}
use Rattle.lists.specs.Bytes.{Bytes}
use Rattle.lists.specs.Lists.{collect, sum, written, written_at}
use Rattle.lists.proofs.Parts.{part-rest}
use Rattle.lists.proofs.Writing.{length_at, at-behind, written-fits, collect-append}
use Rattle.store_rules.specs.Frames.{Row}
use Rattle.store_rules.specs.Store.{Store, poll, long, row_width, Request, Answer, total, rows, recorded, entered, frames, dead, refused, rows_of, step, run}
use Rattle.store_rules.specs.Answers.{Said, said, row_numbers, numbers_of}
use Rattle.store_rules.specs.Sweeps.{polls_from, lent, in_turn, rows_listed}
use Rattle.store_rules.proofs.PollRows.{poll-writes, poll-length}
use Rattle.polls.specs.Promises.{rows_said}

-- ---- how many rows a poll says

rows-said : (a : Answer) → rows_said (said long a) ≡ length (rows_of a)
unfolding said rows_of
rows-said (total n) = refl
rows-said (rows l) = refl
rows-said recorded = refl
rows-said (entered None) = refl
rows-said (entered (Some w)) = refl
rows-said (frames l) = refl
rows-said (dead l) = refl
rows-said (refused n) = refl

-- the part of the slice that is left
pub part_length : (after : List ℕ) (used : ℕ) → length (take (length after - used) (drop used after)) ≡ length after - used
part_length after used = rw (part-rest after used, length-drop used after)

-- ---- one poll

-- a poll in the code's terms: its sender, head and nonces, the part of the slice lent to it, and what it leaves there
module _ (s : Store) (sender : Bytes) (head : ℕ) (known part part' : List ℕ) (a : Said) (k : ℕ) where
  abbrev polled : Store × Answer
  polled = step s (lent (poll sender head known None) (length part))

  module _ (says : a ≡ said long polled.1) (counts : k ≡ rows_said a) where
    pub row_count : k ≡ length (rows_of polled.1)
    row_count = counts ∙ ap rows_said says ∙ rows-said polled.1

    pub number-count : 19 * k ≡ length (numbers_of long polled.1)
    unfolding row_width
    number-count = ap (λ (n : ℕ). 19 * n) row_count ∙ sym (poll-length s long sender head known None (length part))

    pub rows_fit : part' ≡ written (numbers_of long polled.1) part → length part' ≡ length part → 19 * k ≤ length part
    rows_fit wrote same = omega (arith, number-count, written-fits (numbers_of long polled.1) part part' wrote same)

-- ---- the loop

-- what is left of the lists, and the slice after so many rows
pub record Taken (slice after : List ℕ) (count : ℕ) (senders : Bytes) (heads counts nonces : List ℕ) : Type 0 where
  pub summed : sum counts ≡ length nonces
  pub sent : length senders ≡ 20 * length heads
  pub counted : length counts ≡ length heads
  pub same : length after ≡ length slice
  pub fits : 19 * count ≤ length slice

-- the next sender's nonces are there
pub enough-nonces : {slice after : List ℕ} {count : ℕ} {senders : Bytes} {heads : List ℕ} {c : ℕ} {cs nonces : List ℕ} → Taken slice after count senders heads (c ∷ cs) nonces → c ≤ length nonces
unfolding sum
enough-nonces t = omega (arith, t.summed)

module _ (q : Store) (all : List Request) (slice : List ℕ) where
  -- the polls of what is left of the lists
  abbrev pub left : Store → ℕ → Bytes → List ℕ → List ℕ → List ℕ → List Request
  left s count senders heads counts nonces = in_turn s (polls_from senders heads counts nonces) (length slice - 19 * count)

  pub record Sweeping (s : Store) (after : List ℕ) (count : ℕ) (senders : Bytes) (heads counts nonces : List ℕ) : Type 0 where
    pub store : run s (left s count senders heads counts nonces) ≡ run q all
    pub counted : count + length (rows_listed s (left s count senders heads counts nonces)) ≡ length (rows_listed q all)
    pub writes :
        written_at (19 * count) (collect (row_numbers long) (rows_listed s (left s count senders heads counts nonces))) after ≡ written (collect (row_numbers long) (rows_listed q all)) slice

  pub starts : (senders : Bytes) (heads counts nonces : List ℕ) → in_turn q (polls_from senders heads counts nonces) (length slice) ≡ all → Sweeping q slice 0 senders heads counts nonces
  starts senders heads counts nonces is =
      let e : length slice - 19 * 0 ≡ length slice = omega arith in
      record { store = rw (e, is); counted = rw (e, is) (omega arith); writes = rw (e, is) }

  pub done : (s : Store) (after : List ℕ) (count : ℕ) (senders : Bytes) (counts nonces : List ℕ) → Sweeping s after count senders [] counts nonces →
      (s ≡ run q all) × (count ≡ length (rows_listed q all)) × (after ≡ written (collect (row_numbers long) (rows_listed q all)) slice)
  unfolding polls_from in_turn run rows_listed collect
  done s after count senders counts nonces l = (l.store, omega (arith, l.counted), sym (take-append-drop (19 * count) after) ∙ l.writes)

  module _ (s : Store) (after : List ℕ) (count : ℕ) (x ss : Bytes) (h c : ℕ) (hs cs nonces : List ℕ) (wide : length x ≡ 20)
      (l : Sweeping s after count (x ++ ss) (h ∷ hs) (c ∷ cs) nonces) (t : Taken slice after count (x ++ ss) (h ∷ hs) (c ∷ cs) nonces) (enough : c ≤ length nonces) where
    -- the next poll
    abbrev next : Request
    next = lent (poll x h (take c nonces) None) (length slice - 19 * count)

    abbrev answered : Store × Answer
    answered = step s next

    module _ (k : ℕ) (is : 19 * k ≡ length (numbers_of long answered.1)) where
      abbrev later : List Request
      later = left answered.0 (count + k) ss hs cs (drop c nonces)

      left-next : left s count (x ++ ss) (h ∷ hs) (c ∷ cs) nonces ≡ next ∷ later
      unfolding polls_from in_turn
      left-next =
          let front : take 20 (x ++ ss) ≡ x = rw (← wide) (take-append_seam x ss) in
          let back : drop 20 (x ++ ss) ≡ ss = rw (← wide) (drop-append_seam x ss) in
          let b : length slice - 19 * (count + k) ≡ length slice - 19 * count - length (numbers_of long answered.1) = omega arith in
          rw (front, back, b)

      pub turn : k ≡ length (rows_of answered.1) → 19 * k ≤ length slice - 19 * count → (s' : Store) → s' ≡ answered.0 → (after' : List ℕ) → after' ≡ written_at (19 * count) (numbers_of long answered.1) after →
          Taken slice after' (count + k) ss hs cs (drop c nonces) × Sweeping s' after' (count + k) ss hs cs (drop c nonces)
      unfolding run rows_listed sum
      turn rows_are room s' es after' er =
          let new : List ℕ = numbers_of long answered.1 in
          let more : List Row = rows_listed answered.0 later in
          let split : rows_listed s (left s count (x ++ ss) (h ∷ hs) (c ∷ cs) nonces) ≡ rows_of answered.1 ++ more = ap (rows_listed s) left-next in
          let fits : 19 * count + length new ≤ length after = omega (arith, t.fits, t.same) in
          let place : 19 * (count + k) ≡ 19 * count + length new = omega arith in (
            record {
              summed = rw (length-drop c nonces) (omega (arith, t.summed));
              sent = omega (arith, t.sent, length-append x ss);
              counted = omega (arith, t.counted);
              same = rw er (length_at (19 * count) new after fits) ∙ t.same;
              fits = omega (arith, t.fits);
            },
            record {
              store = rw es (sym (ap (run s) left-next) ∙ l.store);
              counted = rw es (omega (arith, l.counted, ap length split, length-append (rows_of answered.1) more));
              writes =
                  rw (es, er)
                  (ap (λ (n : ℕ). written_at n (collect (row_numbers long) more) (written_at (19 * count) new after)) place
                  ∙ at-behind (19 * count) new (collect (row_numbers long) more) after fits
                  ∙ ap (λ (m : List ℕ). written_at (19 * count) m after)
                  (ap (λ (n : List ℕ). n ++ collect (row_numbers long) more) (poll-writes s long x h (take c nonces) None (length slice - 19 * count))
                  ∙ sym (collect-append (row_numbers long) (rows_of answered.1) more)
                  ∙ sym (ap (collect (row_numbers long)) split))
                  ∙ l.writes);
            },
          )

    -- a poll in the code's terms, and the slice with its part back
    module _ (part : List ℕ) (is-part : part ≡ take (length after - 19 * count) (drop (19 * count) after)) where
      size : length part ≡ length slice - 19 * count
      size = rw is-part (omega (arith, part_length after (19 * count), t.same))

      same-poll : step s (lent (poll x h (take c nonces) None) (length part)) ≡ answered
      same-poll = rw size

      pub turn_by : (k : ℕ) (a : Said) (s' : Store) (part' : List ℕ) → a ≡ said long (step s (lent (poll x h (take c nonces) None) (length part))).1 → k ≡ rows_said a →
          s' ≡ (step s (lent (poll x h (take c nonces) None) (length part))).0 → part' ≡ written (numbers_of long (step s (lent (poll x h (take c nonces) None) (length part))).1) part →
          length part' ≡ length part →
          Taken slice (take (19 * count) after ++ (part' ++ drop (length after - 19 * count) (drop (19 * count) after))) (count + k) ss hs cs (drop c nonces)
          × Sweeping s' (take (19 * count) after ++ (part' ++ drop (length after - 19 * count) (drop (19 * count) after))) (count + k) ss hs cs (drop c nonces)
      turn_by k a s' part' says counted es wrote same =
          let used : ℕ = 19 * count in
          let rest : part ≡ drop (19 * count) after = is-part ∙ part-rest after (19 * count) in
          let z : drop (length after - 19 * count) (drop (19 * count) after) ≡ [] = drop_of_length-le (drop (19 * count) after) {i = length after - 19 * count} (rw (length-drop (19 * count) after) (omega arith)) in
          turn k (number-count s x h (take c nonces) part part' a k says counted ∙ ap (λ (r : Store × Answer). length (numbers_of long r.1)) same-poll)
          (row_count s x h (take c nonces) part part' a k says counted ∙ ap (λ (r : Store × Answer). length (rows_of r.1)) same-poll)
          (omega (arith, rows_fit s x h (take c nonces) part part' a k says counted wrote same, size)) s' (es ∙ ap (λ (r : Store × Answer). r.0) same-poll) _
          (rw (z, append-nil)
          (ap (λ (y : List ℕ). take (19 * count) after ++ y)
          (wrote ∙ ap (λ (p : List ℕ). written (numbers_of long (step s (lent (poll x h (take c nonces) None) (length part))).1) p) rest ∙ ap (λ (r : Store × Answer). written (numbers_of long r.1) (drop (19 * count) after)) same-poll)))
