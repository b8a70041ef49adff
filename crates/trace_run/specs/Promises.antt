-- What the run of a trace promises: the lines, the totals and the store that the definitions say.
use Rattle.std.specs.Prelude.{ℕ, ◌≡◌, Bool, List, length}
use Rattle.lists.specs.Bytes.{Bytes}
use Rattle.lists.specs.Lists.{written}
use Rattle.store_rules.specs.Answers.{Said, says_total, says_rows, says_recorded, says_entered, says_frames, says_dead, says_refused}
use Rattle.store_rules.specs.Totals.{Totals}
use Rattle.queries.specs.Queries.{len}
use Rattle.answers.specs.Promises.{heard}
use Rattle.gap_quarantine.specs.Promises.{view_of}
use Rattle.gap_quarantine.specs.declared.Quarantine.{Quarantine}
use Rattle.trace_format.specs.Traces.{Trace, read_trace, end_store, lines, trace_totals}
use Rattle.trace_totals.specs.Counting.{numbers_said, counted, with_held}
use Rattle.trace_totals.specs.declared.Counts.{Counts}
use Rattle.trace_totals.specs.declared.Totals as coded
use Rattle.trace_calls.specs.declared.Reply.{Reply}
use Rattle.trace_calls.specs.declared.Reply.TheVariants.{Answered, Entered}
use Rattle.trace_run.specs.declared.Ran.{Ran}

-- ---- the number of one call

-- the number that is said, where it is a refusal's, or 0
abbrev pub number_said : Said → ℕ
number_said (says_total n) = 0
number_said (says_rows form n) = 0
number_said says_recorded = 0
number_said (says_entered b a n) = 0
number_said (says_frames n) = 0
number_said (says_dead n) = 0
number_said (says_refused n) = n

abbrev pub number_of : Reply → ℕ
number_of (Answered a) = number_said (heard a)
number_of (Entered whose) = 0

-- how many numbers it lists
abbrev pub numbers_listed : Reply → ℕ
numbers_listed (Answered a) = numbers_said (heard a)
numbers_listed (Entered whose) = 0

-- the counts after it
abbrev pub counted_by : Counts → Bool → Reply → List ℕ → Counts
counted_by c evicts (Answered a) numbers = counted c evicts (heard a) numbers
counted_by c evicts (Entered whose) numbers = c

-- ---- the run

-- the end of a run: how many lines, whether the trace is whole, what the calls came to, and this store, in which what is held is counted
abbrev pub ended_with : ℕ → Bool → Counts → Quarantine → Ran
ended_with lines whole c q =
    record {
      lines = lines;
      whole = whole;
      totals = with_held c (len (view_of q));
      store = q;
    }

-- the totals of the code are these
abbrev pub totals_of : coded.Totals → Totals
totals_of t = record { accepted = t.accepted; held = t.held; rescued = t.rescued; dead = t.dead; evicted = t.evicted }

-- a number for each line, at the front of the slice, how many these are, whether the trace is whole, its totals, and the store at the end
pub record RunsTo (t : Trace) (slice : List ℕ) (r : Ran) (slice' : List ℕ) : Type 0 where
  pub counted : r.lines ≡ length (lines t)
  pub slice_after : slice' ≡ written (lines t) slice
  pub whole : r.whole ≡ t.whole
  pub totals : totals_of r.totals ≡ trace_totals t
  pub store : view_of r.store ≡ end_store t

abbrev pub Runs : Bytes → List ℕ → Ran → List ℕ → Type 0
Runs trace = RunsTo (read_trace trace)
