-- What a call promises: that it gives what the definitions say.
use Rattle.std.specs.Prelude.{ℕ, ◌≡◌, List, [], length, Result, Ok, Err}
use Rattle.lists.specs.Bytes.{Bytes}
use Rattle.lists.specs.Lists.{written}
use Rattle.refusal.specs.Numbers.{refusal_number}
use Rattle.store_rules.specs.Store.{Store, Call, RowForm, long, short, Request, Answer, step}
use Rattle.store_rules.specs.Answers.{Said, says_total, says_rows, says_recorded, says_frames, says_dead, says_refused, said, numbers_of, bytes_of}
use Rattle.store_rules.specs.Sweeps.{Sweep, sweep_step}
use Rattle.store_rules.specs.View.{Bodies, held_view}
use Rattle.store_rules.specs.declared.Held.{Held}
use Rattle.answers.specs.declared.Answer as coded
use Rattle.answers.specs.declared.Answer.TheVariants.{Total, Rows, ShortRows, Recorded, Frames, Dead}
use Rattle.refusal.specs.declared.Refusal.{Refusal}
use Rattle.answers.specs.declared.Outcome.{Outcome}

-- what a coded answer says, or a refusal
abbrev pub heard : Result coded.Answer Refusal → Said
heard (Ok (Total n)) = says_total n
heard (Ok (Rows n)) = says_rows long n
heard (Ok (ShortRows n)) = says_rows short n
heard (Ok Recorded) = says_recorded
heard (Ok (Frames n)) = says_frames n
heard (Ok (Dead n)) = says_dead n
heard (Err x) = says_refused (refusal_number x)

-- A call gives what the definitions say that is done: the store, what is said and the lent slices, whole; a refusal returns the very
-- store. `view` says how the definitions see the store's value.
pub record Gives {S : Type 0} (view : S → Store) (form : RowForm) (q : S) (done : Store × Answer) (numbers bytes : List ℕ) (a : Said) (q' : S) (numbers' bytes' : List ℕ) : Type 0 where
  pub store : view q' ≡ done.0
  pub answer : a ≡ said form done.1
  pub numbers_after : numbers' ≡ written (numbers_of form done.1) numbers
  pub bytes_after : bytes' ≡ written (bytes_of done.1) bytes
  pub kept : (n : ℕ) → a ≡ says_refused n → q' ≡ q

-- ---- one call

-- a call that is lent these slices, and writes rows in this form
abbrev pub asked : RowForm → Call → List ℕ → List ℕ → Request
asked form call numbers bytes = record { call = call; form = form; numbers = length numbers; bytes = length bytes }

-- a call is its step
abbrev pub Steps : {S : Type 0} → (S → Store) → RowForm → S → Call → List ℕ → List ℕ → Said → S → List ℕ → List ℕ → Type 0
Steps view form q call numbers bytes = Gives view form q (step (view q) (asked form call numbers bytes)) numbers bytes

-- ---- a sweep

-- a sweep that is lent this slice
abbrev pub asked_sweep : Bytes → List ℕ → List ℕ → List ℕ → List ℕ → Sweep
asked_sweep senders heads counts nonces numbers = record { senders = senders; heads = heads; counts = counts; nonces = nonces; numbers = length numbers }

-- a sweep is its step
abbrev pub SweepSteps : {S : Type 0} → (S → Store) → S → Sweep → List ℕ → Said → S → List ℕ → Type 0
SweepSteps view q w numbers a q' numbers' = Gives view long q (sweep_step (view q) w) numbers [] a q' numbers' []

-- ---- on the held part

-- with these bodies, and rows in this form
abbrev pub HeldPerformsIn : RowForm → Bodies → Held → Call → List ℕ → List ℕ → Outcome Held → List ℕ → List ℕ → Type 0
HeldPerformsIn form bodies h call numbers bytes r = Steps (held_view bodies) form h call numbers bytes (heard r.answer) r.store

-- as document 01 has it: a poll's rows are long
abbrev pub HeldPerforms : Bodies → Held → Call → List ℕ → List ℕ → Outcome Held → List ℕ → List ℕ → Type 0
HeldPerforms = HeldPerformsIn long

-- whatever the bodies are: the call neither reads nor writes them
abbrev pub AlwaysIn : RowForm → Held → Call → List ℕ → List ℕ → Outcome Held → List ℕ → List ℕ → Type 0
AlwaysIn form h call numbers bytes r numbers' bytes' = (bodies : Bodies) → HeldPerformsIn form bodies h call numbers bytes r numbers' bytes'

abbrev pub Always : Held → Call → List ℕ → List ℕ → Outcome Held → List ℕ → List ℕ → Type 0
Always = AlwaysIn long

-- a sweep, whatever the bodies are
abbrev pub SweepsAlways : Held → Sweep → List ℕ → Outcome Held → List ℕ → Type 0
SweepsAlways h w numbers r numbers' = (bodies : Bodies) → SweepSteps (held_view bodies) h w numbers (heard r.answer) r.store numbers'
