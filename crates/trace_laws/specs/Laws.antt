-- What holds of every trace (request 2027-06), and of its totals (request 2027-07).
use Rattle.std.specs.Prelude.{ℕ, ◌+◌, ◌≤◌, ◌<◌, ◌≡◌, true, false, List, ◌++◌, map, length, take, drop}
use Rattle.lists.specs.Bytes.{Bytes}
use Rattle.lists.specs.Lists.{Each, collect, is_empty}
use Rattle.store_rules.specs.Store.{empty, Call}
use Rattle.store_laws.specs.Totals.{accounted_for}
use Rattle.trace_format.specs.Reading.{read_call}
use Rattle.trace_format.specs.Writing.{write_call, Fits}
use Rattle.trace_format.specs.Standing.{NotRead}
use Rattle.trace_format.specs.Traces.{Trace, read_trace, lent, end_store, refusals, trace_totals}

-- ---- every list of calls within the widths can be written as a trace, and is read from it

abbrev pub ReadsBack : Type 0
ReadsBack = (cs : List Call) → Each Fits cs → length (collect write_call cs) ≤ 65536 → read_trace (collect write_call cs) ≡ record { calls = cs; whole = true }

-- ---- what is read from a whole trace fits the widths, and is written again as the same bytes: so it is the one trace of its calls

abbrev pub WrittenAgain : Type 0
WrittenAgain = (bs : Bytes) → Each (λ b. b < 256) bs → (read_trace bs).whole ≡ true → (collect write_call (read_trace bs).calls ≡ bs) × Each Fits (read_trace bs).calls

-- ---- a trace with a 19

-- It is its calls before that place: these are a whole trace, of so many bytes. And no byte from there on matters, as long as it
-- begins no call.
pub record Breaks (bs : Bytes) : Type 0 where
  pub at : ℕ
  pub before : read_trace (take at bs) ≡ record { calls = (read_trace bs).calls; whole = true }
  pub none : NotRead (read_call (drop at bs))
  pub anyway : (behind : Bytes) → is_empty behind ≡ false → NotRead (read_call behind) → at + length behind ≤ 65536 → read_trace (take at bs ++ behind) ≡ read_trace bs

abbrev pub EveryBreak : Type 0
EveryBreak = (bs : Bytes) → length bs ≤ 65536 → (read_trace bs).whole ≡ false → Breaks bs

-- ---- slices long enough: no call is refused with 5

abbrev pub NeverShort : Type 0
NeverShort = (cs : List Call) → Each (λ n. n ≡ 5 → ⊥) (refusals empty (map lent cs))

-- ---- its totals: what was accepted is held, or was rescued, is dead or was evicted

abbrev pub TraceAddsUp : Type 0
TraceAddsUp = (bs : Bytes) → (trace_totals (read_trace bs)).accepted ≡ accounted_for (trace_totals (read_trace bs))

-- held are the entries of the store at the end
abbrev pub HeldAtTheEnd : Type 0
HeldAtTheEnd = (t : Trace) → (trace_totals t).held ≡ length (end_store t).entries
