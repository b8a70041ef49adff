-- What the reader of one call promises: that it makes the call that the definitions read, and gives what this call gives.
use Rattle.std.specs.Prelude.{ℕ, ◌-◌, ◌≤◌, ◌<◌, ◌≡◌, Bool, List, Option, Some, None, Result, Ok, Err, length}
use Rattle.lists.specs.Bytes.{Bytes}
use Rattle.refusal.specs.declared.Refusal.{Refusal}
use Rattle.refusal.specs.declared.Refusal.TheVariants.{BadTrace}
use Rattle.store_rules.specs.Store.{Call, RowForm}
use Rattle.store_rules.specs.Answers.{Said}
use Rattle.store_rules.specs.Totals.{is_eviction}
use Rattle.answers.specs.Promises.{heard, Steps}
use Rattle.answers.specs.declared.Outcome.{Outcome}
use Rattle.gap_quarantine.specs.Promises.{view_of, heard_entering}
use Rattle.gap_quarantine.specs.declared.Quarantine.{Quarantine}
use Rattle.trace_format.specs.Reading.{got, cut_short, bad, ReadCall}
use Rattle.trace_parts.specs.Parts.{list_end}
use Rattle.trace_calls.specs.declared.Reply.{Reply}
use Rattle.trace_calls.specs.declared.Reply.TheVariants as reply
use Rattle.trace_calls.specs.declared.Called.{Called}
use Rattle.trace_calls.specs.declared.Made.{Made}

-- ---- where lists end

-- a list of numbers at a place and a list of bytes after it end here, or one of them is cut short
abbrev pub TwoLists : ℕ → Bytes → Option (ℕ × ℕ) → Type 0
TwoLists at bs (Some p) = (p.0 ≡ list_end 8 at bs) × (p.1 ≡ list_end 1 p.0 bs) × (p.1 ≤ length bs)
TwoLists at bs None = length bs < list_end 1 (list_end 8 at bs) bs

-- ---- a call

-- what a reply says
abbrev pub reply_said : Reply → Said
reply_said (reply.Answered a) = heard a
reply_said (reply.Entered whose) = heard_entering whose

-- a call of n bytes gives what its step gives, and whether it is an eviction
pub record MakesCall (form : RowForm) (q : Quarantine) (c : Call) (n : ℕ) (slice bytes : List ℕ) (r : Called) (store : Quarantine) (slice' bytes' : List ℕ) : Type 0 where
  pub size : r.size ≡ n
  pub evicts : r.evicts ≡ is_eviction c
  pub steps : Steps view_of form q c slice bytes (reply_said r.reply) store slice' bytes'

-- the call is made
abbrev pub MakesOne : RowForm → Quarantine → Call → ℕ → List ℕ → List ℕ → Result Called Refusal → Quarantine → List ℕ → List ℕ → Type 0
MakesOne form q c n slice bytes (Ok r) store slice' bytes' = MakesCall form q c n slice bytes r store slice' bytes'
MakesOne form q c n slice bytes (Err x) store slice' bytes' = ⊥

-- no call: refusal 19, and nothing changes
abbrev pub nothing : Quarantine → Made
nothing q = record { call = Err BadTrace; store = q }

-- a call of this size, an eviction or none, with what it answered
abbrev pub answered_as : ℕ → Bool → Outcome Quarantine → Made
answered_as size evicts r = record { call = Ok (record { size = size; evicts = evicts; reply = reply.Answered r.answer }); store = r.store }

-- as the bytes are read: the size is the number of bytes before those that are left
abbrev pub Makes : RowForm → Quarantine → Bytes → ReadCall → List ℕ → List ℕ → Made → List ℕ → List ℕ → Type 0
Makes form q bs (got c rest) slice bytes r slice' bytes' = MakesOne form q c (length bs - length rest) slice bytes r.call r.store slice' bytes'
Makes form q bs cut_short slice bytes r slice' bytes' = (r ≡ nothing q) × (slice' ≡ slice) × (bytes' ≡ bytes)
Makes form q bs bad slice bytes r slice' bytes' = (r ≡ nothing q) × (slice' ≡ slice) × (bytes' ≡ bytes)
