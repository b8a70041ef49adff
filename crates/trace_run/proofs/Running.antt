-- The loop of a trace: what is left of it, run from the present store, is always what the whole trace comes to.
use Prim.Native.Nat.{ℕ, ◌+◌, ◌*◌, ◌-◌, ◌≤◌, ◌<◌}
use native.Mathlib.Numerals.{add-one}
use native.Mathlib.Omega.{arith}
use mathlib.Core.Path.{◌≡◌, refl, sym, ap, ◌∙◌, subst}
use mathlib.Core.Bool.{Bool, true, false, cond}
use mathlib.Core.List.{List, [], ◌∷◌, ◌++◌, append_assoc, append-nil, map}
use lib.ListN.{length, take, drop, set, length-append, length-take, length-drop, length-set, take-append-drop, drop_of_length-le}
use lib.Seq.{take-suc-set, drop-set-lt, drop-drop, drop-cons}
use borrow.Author.Tests.{lt-ltb}
use Rattle.lists.specs.Bytes.{Bytes}
use Rattle.lists.specs.Lists.{written, is_empty, sum}
use Rattle.store_rules.specs.Store.{Store, empty, Call, step, run}
use Rattle.store_rules.specs.Sweeps.{Item, single, step_item, run_items}
use Rattle.store_rules.specs.Totals.{Totals, answers, totals}
use Rattle.queries.specs.Queries.{len}
use Rattle.gap_quarantine.specs.Promises.{view_of}
use Rattle.gap_quarantine.specs.declared.Quarantine.{Quarantine}
use Rattle.trace_format.specs.Reading.{got, read_call}
use Rattle.trace_format.specs.Standing.{NotRead}
use Rattle.trace_format.specs.Traces.{Trace, read_trace, lent, end_store, refusal_in, refusals, lines_from, lines, trace_totals}
use Rattle.trace_format.proofs.Standing.{call-place}
use Rattle.trace_format.proofs.Calls.{ReadAs, no_calls, with_call, read_none, read-no-call, read-call, read_whole}
use Rattle.trace_totals.specs.Counting.{zero, with_held}
use Rattle.trace_totals.specs.declared.Counts.{Counts}
use Rattle.trace_run.specs.Promises.{ended_with, totals_of, RunsTo}
use Rattle.trace_run.specs.declared.Ran.{Ran}
use Rattle.trace_run.proofs.Calling.{plus_call, Few, few-none}

-- ---- the lines that are written

-- so many are at the front of the slice, and what lies past them stays
pub record Front (slice₀ slice : List ℕ) (count : ℕ) (front : List ℕ) : Type 0 where
  pub same : length slice ≡ length slice₀
  pub room : count ≤ length slice
  pub holds : take count slice ≡ front
  pub past : drop count slice ≡ drop count slice₀

pub one_more : (slice₀ slice : List ℕ) (count : ℕ) (front : List ℕ) (n : ℕ) → Front slice₀ slice count front → count < length slice → Front slice₀ (set slice count n) (count + 1) (front ++ (n ∷ []))
one_more slice₀ slice count front n g h = record {
  same = length-set slice count n ∙ g.same;
  room = rw (length-set slice count n) (omega arith);
  holds = rw (add-one count, take-suc-set slice count n h, g.holds);
  past = drop-set-lt (count + 1) slice count n (omega arith) ∙ sym (drop-drop 1 count slice) ∙ ap (drop 1) g.past ∙ drop-drop 1 count slice₀;
}

all-written : (slice₀ slice : List ℕ) (count : ℕ) (front : List ℕ) → Front slice₀ slice count front → (count ≡ length front) × (slice ≡ written front slice₀)
all-written slice₀ slice count front g =
    let e : count ≡ length front = omega (arith, ap length g.holds, length-take count slice, g.room) in
    (e, sym (take-append-drop count slice) ∙ rw (g.holds, g.past, e))

-- ---- the totals

-- the totals of what is left, with what was counted before it
abbrev pub with : Counts → Totals → Totals
with n u =
    record { accepted = n.accepted + u.accepted; held = u.held; rescued = n.rescued + u.rescued; dead = n.dead + u.dead; evicted = n.evicted + u.evicted }

same-totals : (t u : Totals) → t.accepted ≡ u.accepted → t.held ≡ u.held → t.rescued ≡ u.rescued → t.dead ≡ u.dead → t.evicted ≡ u.evicted → t ≡ u
same-totals t u a h r d e = λ i. record { accepted = a i; held = h i; rescued = r i; dead = d i; evicted = e i }

with-zero : (u : Totals) → u ≡ with zero u
with-zero u = same-totals u (with zero u) (omega arith) refl (omega arith) (omega arith) (omega arith)

module _ (n : Counts) (s : Store) where
  with_none : with n (totals s []) ≡ totals_of (with_held n (length s.entries))
  unfolding totals answers sum run_items
  with_none = same-totals _ _ (omega arith) refl (omega arith) (omega arith) (omega arith)

  with_call_lem : (c : Call) (is : List Item) → with n (totals s (single (lent c) ∷ is)) ≡ with (plus_call n s c) (totals (step s (lent c)).0 is)
  unfolding totals answers sum run_items step_item
  with_call_lem c is = same-totals _ _ (omega arith) refl (omega arith) (omega arith) (omega arith)

-- ---- the loop

module _ (bs : Bytes) (slice₀ : List ℕ) where
  -- what the whole trace comes to, where these lines and counts come before, and this trace is left, from this store
  pub record Comes (front : List ℕ) (n : Counts) (s : Store) (t : Trace) : Type 0 where
    pub lines_are : lines (read_trace bs) ≡ front ++ lines_from s t
    pub whole_as : (read_trace bs).whole ≡ t.whole
    pub totals_are : trace_totals (read_trace bs) ≡ with n (totals s (map single (map lent t.calls)))
    pub store_is : end_store (read_trace bs) ≡ run s (map lent t.calls)

  -- whatever trace is left
  pub record Going (s : Store) (n : Counts) (slice : List ℕ) (count at : ℕ) : Type 0 where
    pub within : at ≤ length bs
    pub few : 10 * count ≤ at
    pub sums : Few n count
    pub front : Front slice₀ slice count (take count slice)
    pub ends : (t : Trace) → ReadAs (drop at bs) t → Comes (take count slice) n s t

  pub begins : (s : Store) (n : Counts) → s ≡ empty → n ≡ zero → length bs ≤ 65536 → Going s n slice₀ 0 0
  unfolding lines end_store trace_totals
  begins s n e z h = record {
    within = omega arith;
    few = omega arith;
    sums = rw z few-none;
    front = record { same = refl; room = omega arith; holds = refl; past = refl };
    ends = λ t r.
        let w = read_whole bs t h r in
        record { lines_are = rw (w, e); whole_as = rw w; totals_are = rw (w, e, z) (with-zero _); store_is = rw (w, e) };
  }

  -- a trace without more calls
  pub record Ends (front : List ℕ) (whole : Bool) (n : Counts) (s : Store) : Type 0 where
    pub lines_are : lines (read_trace bs) ≡ front
    pub whole_is : (read_trace bs).whole ≡ whole
    pub totals_are : trace_totals (read_trace bs) ≡ totals_of (with_held n (length s.entries))
    pub store_is : end_store (read_trace bs) ≡ s

  ends-here : (front : List ℕ) (whole : Bool) (n : Counts) (s : Store) → Comes front n s (no_calls whole) → Ends (front ++ cond whole [] (19 ∷ [])) whole n s
  unfolding lines_from refusals run
  ends-here front whole n s c = record { lines_are = c.lines_are; whole_is = c.whole_as; totals_are = c.totals_are ∙ with_none n s; store_is = c.store_is }

  pub ran : (r : Ran) (slice front : List ℕ) (count : ℕ) (whole : Bool) (n : Counts) (q : Quarantine) → r ≡ ended_with count whole n q → Front slice₀ slice count front → Ends front whole n (view_of q) →
      RunsTo (read_trace bs) slice₀ r slice
  unfolding len
  ran r slice front count whole n q is f e =
      let w = all-written slice₀ slice count front f in
      rw is (record { counted = rw e.lines_are w.0; slice_after = rw e.lines_are w.1; whole = sym e.whole_is; totals = sym e.totals_are; store = sym e.store_is })

  module _ (s : Store) (n : Counts) (slice : List ℕ) (count at : ℕ) (g : Going s n slice count at) where
    pub done : length bs ≤ at → Ends (take count slice) true n s
    done h =
        let e = ends-here (take count slice) true n s (g.ends (no_calls true) (rw (drop_of_length-le bs h) read_none)) in
        rw (append-nil (take count slice)) at e

    -- something is left
    left : at < length bs → is_empty (drop at bs) ≡ false
    unfolding is_empty
    left h = rw (drop-cons bs at 0 h)

    -- what is read there
    module _ (h : at < length bs) where
      -- no call stands here
      pub stops : NotRead (read_call (drop at bs)) → Ends (take count slice ++ (19 ∷ [])) false n s
      stops u = ends-here (take count slice) false n s (g.ends (no_calls false) (read-no-call (drop at bs) (left h) u))

      pub goes : (number : ℕ) (n' : Counts) (t : Store) (c : Call) (rest : Bytes) → read_call (drop at bs) ≡ got c rest → (size : ℕ) → size ≡ length (drop at bs) - length rest →
          number ≡ refusal_in (step s (lent c)).1 → n' ≡ plus_call n s c → t ≡ (step s (lent c)).0 → Few n' (count + 1) → count < length slice →
          (0 < size) × Going t n' (set slice count number) (count + 1) (at + size)
      unfolding lines_from refusals run
      goes number n' t c rest is size z e m f sums room =
          let p = call-place (drop at bs) c rest is in
          let l = length-drop at bs in
          let w = one_more slice₀ slice count (take count slice) number g.front room in (
            omega (arith, z, p.1),
            rw z
                (record {
                  within = omega (arith, p.1);
                  few = omega (arith, p.1, g.few);
                  sums = sums;
                  front = record { same = w.same; room = w.room; holds = refl; past = w.past };
                  ends = λ u r.
                      let x = g.ends (with_call c u) (read-call (drop at bs) rest c u is (subst (λ (b : Bytes). ReadAs b u) (sym (p.0 ∙ drop-drop (length (drop at bs) - length rest) at bs)) r)) in
                      record {
                        lines_are = rw (w.holds, append_assoc (take count slice) (number ∷ []), e, f) x.lines_are;
                        whole_as = x.whole_as;
                        totals_are = rw (m, f) (x.totals_are ∙ with_call_lem n s c (map single (map lent u.calls)));
                        store_is = rw f x.store_is;
                      };
                }),
          )

-- ---- a trace over the limit

pub not-run : (bs : Bytes) (slice : List ℕ) (r : Ran) (slice' : List ℕ) → 65536 < length bs → r ≡ ended_with 1 false zero r.store → view_of r.store ≡ empty → slice' ≡ written (19 ∷ []) slice →
    RunsTo (read_trace bs) slice r slice'
unfolding read_trace lines lines_from refusals end_store run trace_totals totals answers sum run_items len
not-run bs slice r slice' h is e w =
    rw (lt-ltb 65536 (length bs) h)
    (record {
      counted = ap (λ (x : Ran). x.lines) is;
      slice_after = w;
      whole = ap (λ (x : Ran). x.whole) is;
      totals = ap (λ (x : Ran). totals_of x.totals) is ∙ ap (λ (x : Store). totals_of (with_held zero (length x.entries))) e;
      store = e;
    })

-- ---- the lines are within the slice

pub ran-within : (t : Trace) (slice : List ℕ) (r : Ran) (slice' : List ℕ) → RunsTo t slice r slice' → r.lines ≤ length slice'
ran-within t slice r slice' g = rw (g.slice_after, length-append) (omega (arith, g.counted))
