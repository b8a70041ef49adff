-- The lines of a trace, one after another; and what is printed of a file, where the buffer holds one byte more than a trace may have.
use Prim.Native.Nat.{ℕ, ◌+◌, ◌≤◌, ◌<◌, min}
use native.Mathlib.Numerals.{add-one}
use native.Mathlib.Omega.{arith}
use mathlib.Core.Path.{◌≡◌, refl, ap, sym, ◌∙◌}
use mathlib.Core.Bool.{Bool, true, false, cond}
use mathlib.Core.List.{List, [], ◌++◌, append-nil}
use lib.Dec.{ltb}
use lib.ListN.{length, take, drop, get_or, length-take, drop_of_length-le}
use lib.Seq.{drop-cons, take_at}
use borrow.Author.Tests.{lt-ltb, ltb-true, ltb-false}
use Rattle.lists.specs.Bytes.{Bytes}
use Rattle.store_rules.specs.Totals.{Totals}
use Rattle.trace_format.specs.Traces.{Trace, read_trace, refusals, lines_from, lines, trace_totals}
use Rattle.trace_run.specs.Promises.{RunsTo}
use Rattle.trace_run.specs.declared.Ran.{Ran}
use Rattle.console.specs.Waiting.{all_behind}
use Rattle.console.proofs.Putting.{and_then}
use Rattle.trace_output.specs.Lines.{placed_line, placed_lines, totals_line, trace_lines, trace_output}

-- a number's line is put, and those of the others are left
pub line-turn : (ns : List ℕ) (w next : Bytes) (i : ℕ) → i < length ns → next ≡ all_behind w (placed_line i (get_or ns i 0))
    → all_behind next (placed_lines (i + 1) (drop (i + 1) ns)) ≡ all_behind w (placed_lines i (drop i ns))
unfolding all_behind placed_line placed_lines
line-turn ns w next i h f = rw (drop-cons ns i 0 h, f, add-one i)

pub line-done : (ns : List ℕ) (w : Bytes) (i : ℕ) → length ns ≤ i → all_behind w (placed_lines i (drop i ns)) ≡ w
unfolding all_behind placed_lines
line-done ns w i h = rw (drop_of_length-le ns h)

-- the lines of a run are at the front of the slice
pub ran-lines : (t : Trace) (slice : List ℕ) (r : Ran) (slice' : List ℕ) → RunsTo t slice r slice' → take r.lines slice' ≡ lines t
ran-lines t slice r slice' g = rw (g.slice_after, g.counted) (take_at (lines t) _ (length (lines t)) refl)

module _ (t : Trace) (w mid : Bytes) (put : mid ≡ all_behind w (placed_lines 0 (lines t))) where
  ends : (b : Bool) → t.whole ≡ b → all_behind w (placed_lines 0 (lines t) ++ cond b (totals_line (trace_totals t)) []) ≡ all_behind w (trace_lines t)
  unfolding trace_lines
  ends b e = ap (λ (x : Bool). all_behind w (placed_lines 0 (lines t) ++ cond x (totals_line (trace_totals t)) [])) (sym e)

  -- a trace that is not whole has no totals
  pub without-totals : t.whole ≡ false → mid ≡ all_behind w (trace_lines t)
  without-totals e = put ∙ ap (all_behind w) (sym (append-nil (placed_lines 0 (lines t)))) ∙ ends false e

  -- a whole one has them after its lines
  pub with-totals : (totals : Totals) (last : Bytes) → t.whole ≡ true → totals ≡ trace_totals t → last ≡ all_behind mid (totals_line totals) → last ≡ all_behind w (trace_lines t)
  with-totals totals last e f g = and_then (placed_lines 0 (lines t)) (totals_line (trace_totals t)) w mid last put (rw f at g) ∙ ends true e

-- a trace over the limit is not run
over : (trace : Bytes) → 65536 < length trace → trace_lines (read_trace trace) ≡ placed_line 0 19
unfolding trace_lines read_trace lines lines_from refusals placed_lines placed_line
over trace h = rw (lt-ltb 65536 (length trace) h)

-- so it is enough to run what the buffer holds
pub printed : (n k : ℕ) (read : Bytes) → 65536 < length read → k ≡ min n (length read) → trace_lines (read_trace (take k read)) ≡ trace_output n read
unfolding trace_output
printed n k read long e = go (ltb 65536 n) refl
  where
    go : (b : Bool) → ltb 65536 n ≡ b → trace_lines (read_trace (take k read)) ≡ cond b (placed_line 0 19) (trace_lines (read_trace (take n read)))
    go true t = over (take k read) (rw (length-take k read) (omega (arith, ltb-true 65536 n t)))
    go false t = let same : k ≡ n = omega (arith, ltb-false 65536 n t) in ap (λ (j : ℕ). trace_lines (read_trace (take j read))) same
