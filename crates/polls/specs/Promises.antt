-- What the contracts of the polls and of the sweep speak of beside the definitions.
use Rattle.std.specs.Prelude.{ℕ, ◌≡◌, ◌*◌, ◌/◌, ◌≤◌, List, [], length, Ok}
use Rattle.lists.specs.Bytes.{Bytes}
use Rattle.lists.specs.Lists.{collect, written}
use Rattle.store_rules.specs.Frames.{Row}
use Rattle.store_rules.specs.Poll.{poll_rule}
use Rattle.store_rules.specs.Rules.{only_of}
use Rattle.store_rules.specs.Store.{long, short, Walked, walk}
use Rattle.store_rules.specs.Answers.{Said, says_total, says_rows, says_recorded, says_entered, says_frames, says_dead, says_refused, row_numbers}
use Rattle.store_rules.specs.Sweeps.{Sweep, sweep_effect}
use Rattle.store_rules.specs.View.{Bodies, entries_seen, guards_seen, held_view}
use Rattle.store_rules.specs.declared.Held.{Held}
use Rattle.decisions.specs.Courses.{form_of}
use Rattle.decisions.specs.Polls.{content_given}
use Rattle.decisions.specs.declared.asked.Poll.{Poll}
use Rattle.decisions.specs.declared.rows.RowForm.{RowForm}
use Rattle.decisions.specs.declared.rows.RowForm.TheVariants.{Long, Short}
use Rattle.answers.specs.Promises.{heard, Gives}
use Rattle.answers.specs.declared.Answer.{Answer}
use Rattle.answers.specs.declared.Answer.TheVariants.{Rows, ShortRows}

-- what a poll that wrote so many rows answers
abbrev pub rows_in : RowForm → ℕ → Answer
rows_in Long n = Rows n
rows_in Short n = ShortRows n

-- what a poll makes of the entries and the guards
abbrev pub walked_by : Bodies → Held → Poll → Walked Row
walked_by bodies h p = walk (only_of p.sender (poll_rule p.head p.known.now (content_given p.given))) (entries_seen h) (guards_seen bodies h)

-- the pass of a poll: the store after it, how many rows it wrote, and the slice
pub record Passes (form : RowForm) (bodies : Bodies) (h : Held) (p : Poll) (rows : List ℕ) (n : ℕ) (h' : Held) (rows' : List ℕ) : Type 0 where
  pub store : held_view bodies h' ≡ record { entries = (walked_by bodies h p).entries; guards = (walked_by bodies h p).guards }
  pub counted : n ≡ length (walked_by bodies h p).listed
  pub wrote : rows' ≡ written (collect (row_numbers (form_of form)) (walked_by bodies h p).listed) rows

-- whole senders, at most 64 of them
abbrev pub IsSenders : Bytes → Type 0
IsSenders senders = (length senders ≡ 20 * (length senders / 20)) × (length senders / 20 ≤ 64)

-- how many rows of 19 numbers are said
abbrev pub rows_said : Said → ℕ
rows_said (says_total n) = 0
rows_said (says_rows long n) = n
rows_said (says_rows short n) = 0
rows_said says_recorded = 0
rows_said (says_entered b sender place) = 0
rows_said (says_frames n) = 0
rows_said (says_dead n) = 0
rows_said (says_refused n) = 0

-- the polls of a sweep wrote so many rows, whatever the bodies are
abbrev pub PollsInTurn : Held → Sweep → List ℕ → ℕ → Held → List ℕ → Type 0
PollsInTurn h w numbers n h' numbers' = (bodies : Bodies) → Gives (held_view bodies) long h (sweep_effect (held_view bodies h) w) numbers [] (heard (Ok (Rows n))) h' numbers' []
