-- What the calls promise: each is its step.
use Rattle.std.specs.Prelude.{ℕ, Bool, true, false, not, List, [], Option, Some, None, replicate}
use Rattle.lists.specs.Bytes.{Bytes, le_bytes}
use Rattle.store_rules.specs.Frames.{Consumed}
use Rattle.store_rules.specs.declared.lookup.Whose.{Whose}
use Rattle.store_rules.specs.Store.{Store, Call, enter_tentative, RowForm, long}
use Rattle.store_rules.specs.Answers.{Said, says_entered}
use Rattle.store_rules.specs.Sweeps.{Sweep}
use Rattle.store_rules.specs.View.{Bodies, held_view}
use Rattle.store_rules.specs.declared.Entry.{Entry}
use Rattle.store_rules.specs.declared.Held.{Held}
use Rattle.guards.specs.Recording.{bodies_in}
use Rattle.guards.specs.declared.bodies.GuardBodies.{GuardBodies}
use Rattle.decisions.specs.declared.selection.Selection.{Selection}
use Rattle.decisions.specs.declared.selection.Selection.TheVariants.{OfSender, Reorganised, Finalized}
use Rattle.answers.specs.Promises.{heard, Steps, SweepSteps}
use Rattle.answers.specs.declared.Answer.{Answer}
use Rattle.answers.specs.declared.Answer.TheVariants.{Frames, Dead}
use Rattle.answers.specs.declared.Outcome.{Outcome}
use Rattle.gap_quarantine.specs.declared.Quarantine.{Quarantine}
use Rattle.gap_quarantine.specs.declared.Entered.{Entered}

-- what entering says
abbrev pub heard_entering : Option Whose → Said
heard_entering (Some w) = says_entered true w.sender w.place
heard_entering None = says_entered false (replicate 20 0) 0

-- ---- the store as one value

abbrev pub view_of : Quarantine → Store
view_of q = held_view (bodies_in q.bodies) q.held

-- with rows in this form
abbrev pub PerformsIn : RowForm → Quarantine → Call → List ℕ → List ℕ → Outcome Quarantine → List ℕ → List ℕ → Type 0
PerformsIn form q call numbers bytes r = Steps view_of form q call numbers bytes (heard r.answer) r.store

-- as document 01 has it: a poll's rows are long
abbrev pub Performs : Quarantine → Call → List ℕ → List ℕ → Outcome Quarantine → List ℕ → List ℕ → Type 0
Performs = PerformsIn long

-- a sweep
abbrev pub SweepPerforms : Quarantine → Sweep → List ℕ → Outcome Quarantine → List ℕ → Type 0
SweepPerforms q w numbers r = SweepSteps view_of q w numbers (heard r.answer) r.store

-- entering
abbrev pub Enters : Quarantine → Bytes → Consumed → Entered Quarantine → Type 0
Enters q hash c r = Steps view_of long q (enter_tentative hash c) [] [] (heard_entering r.whose) r.store [] []

-- ---- the held part

-- entering, whatever the bodies are
abbrev pub EntersAlways : Held → Bytes → Consumed → Entered Held → Type 0
EntersAlways h hash c r = (bodies : Bodies) → Steps (held_view bodies) long h (enter_tentative hash c) [] [] (heard_entering r.whose) r.store [] []

-- the held part and the lent bodies as one value
abbrev pub joined : Held → GuardBodies → Quarantine
joined h bodies = record { held = h; bodies = bodies }

-- a call that is lent the bodies and changes them
abbrev pub Writes : Held → GuardBodies → Call → Outcome Held → GuardBodies → Type 0
Writes h bodies call r bodies' =
    Performs (joined h bodies) call [] [] (record { answer = r.answer; store = joined r.store bodies' }) [] []

-- ---- what a pass that listed so many answers

abbrev pub answered : Selection → ℕ → Answer
answered (OfSender a) n = Frames n
answered (Reorganised block hash) n = Frames n
answered (Finalized block) n = Dead n

-- ---- where a push puts a frame

-- the entry's address comes after this one
abbrev pub is_after : Bytes → Entry → Bool
is_after from e = not (le_bytes e.frame.from from)
