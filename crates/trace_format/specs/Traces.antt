-- A trace (request 2027-06): its calls, what each answers, the store at the end, and where a 19 comes, if one does; and its totals
-- (request 2027-07).
use Rattle.std.specs.Prelude.{ℕ, zero, suc, Bool, true, false, cond, List, [], ◌∷◌, ◌++◌, map, ltb, length}
use Rattle.lists.specs.Bytes.{Bytes}
use Rattle.lists.specs.Lists.{is_empty}
use Rattle.store_rules.specs.Store.{Store, empty, Call, long, Request, Answer, total, rows, recorded, entered, frames, dead, refused, step, run}
use Rattle.store_rules.specs.Sweeps.{single}
use Rattle.store_rules.specs.Totals.{Totals, totals}
use Rattle.trace_format.specs.Reading.{got, cut_short, bad, ReadCall, read_call}

-- ---- the calls of a trace

-- The calls, and whether the trace ends with the last of them. If it does not, what stands behind them is no call: a 19, in the
-- place after theirs.
pub record Trace : Type 0 where
  pub calls : List Call
  pub whole : Bool

-- the call that was read, and those behind it
unfoldable pub starting_with : ReadCall → (Bytes → Trace) → Trace
starting_with (got c rest) behind = record { calls = c ∷ (behind rest).calls; whole = (behind rest).whole }
starting_with cut_short behind = record { calls = []; whole = false }
starting_with bad behind = record { calls = []; whole = false }

-- the calls of these bytes, at most so many
unfoldable pub read_calls : ℕ → Bytes → Trace
read_calls zero bs = record { calls = []; whole = is_empty bs }
read_calls (suc k) bs = cond (is_empty bs) (record { calls = []; whole = true }) (starting_with (read_call bs) (λ rest. read_calls k rest))

-- A trace has no more calls than bytes. Of one over 65,536 bytes nothing is read: a 19 in place 0.
unfoldable pub read_trace : Bytes → Trace
read_trace bs = cond (ltb 65536 (length bs)) (record { calls = []; whole = false }) (read_calls (length bs) bs)

-- ---- its run

-- a call with slices long enough: 19 numbers for each of 64 rows, and 64 bytes for each of 64 frames
unfoldable pub lent : Call → Request
lent c = record { call = c; form = long; numbers = 1216; bytes = 4096 }

-- the store at the end: that of the calls made directly, from the empty one
unfoldable pub end_store : Trace → Store
end_store t = run empty (map lent t.calls)

-- the number of a refusal, or 0
unfoldable pub refusal_in : Answer → ℕ
refusal_in (total n) = 0
refusal_in (rows l) = 0
refusal_in recorded = 0
refusal_in (entered w) = 0
refusal_in (frames l) = 0
refusal_in (dead l) = 0
refusal_in (refused n) = n

-- that of each call, in its place
unfoldable pub refusals : Store → List Request → List ℕ
refusals s [] = []
refusals s (q ∷ qs) = refusal_in (step s q).1 ∷ refusals (step s q).0 qs

-- a number for each call, and 19 behind them if the trace does not end there
unfoldable pub lines_from : Store → Trace → List ℕ
lines_from s t = refusals s (map lent t.calls) ++ cond t.whole [] (19 ∷ [])

unfoldable pub lines : Trace → List ℕ
lines = lines_from empty

-- ---- its totals

-- those of its calls, from the empty store
unfoldable pub trace_totals : Trace → Totals
trace_totals t = totals empty (map single (map lent t.calls))
