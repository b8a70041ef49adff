-- What a poll decides of one entry, as the definitions see it: the entry's visit, and the row's form.
use Rattle.std.specs.Prelude.{ℕ, Bool, true, false, not, List, [], ◌∷◌}
use Rattle.std.specs.Prelude.{Option, None, Some}
use Rattle.lists.specs.Lists.{is_in}
use Rattle.store_rules.specs.Frames.{Frame, Standing, Entry, Decision, rescue, nonce_consumed, still_waiting, Row, Visit}
use Rattle.store_rules.specs.Poll.{predecessors, unknown, stay, leave}
use Rattle.store_rules.specs.Store.{RowForm, long, short}
use Rattle.decisions.specs.declared.rows.Telling.{Telling}
use Rattle.decisions.specs.declared.rows.Telling.TheVariants.{Consumed, Hold, Waits, HeldBack, Rescued}
use Rattle.decisions.specs.declared.rows.RowForm as coded
use Rattle.decisions.specs.declared.rows.RowForm.TheVariants.{Long, Short}

abbrev pub form_of : coded.RowForm → RowForm
form_of Long = long
form_of Short = short

abbrev pub decision_of : Telling → Decision
decision_of Consumed = nonce_consumed
decision_of Hold = still_waiting
decision_of Waits = still_waiting
decision_of HeldBack = still_waiting
decision_of Rescued = rescue

-- the nonces that a row lists
abbrev pub nonces_of : Telling → ℕ → List ℕ → Frame → List ℕ
nonces_of Consumed head known f = []
nonces_of Hold head known f = unknown head known f
nonces_of Waits head known f = unknown head known f
nonces_of HeldBack head known f = predecessors head f
nonces_of Rescued head known f = predecessors head f

-- whether a row lists this predecessor
abbrev pub is_listed : Telling → List ℕ → ℕ → Bool
is_listed Consumed known n = false
is_listed Hold known n = not (is_in n known)
is_listed Waits known n = not (is_in n known)
is_listed HeldBack known n = true
is_listed Rescued known n = true

abbrev pub row_of : Telling → ℕ → List ℕ → Frame → Row
row_of t head known f = record { frame = f; decision = decision_of t; nonces = nonces_of t head known f }

-- the standing of an entry that stays after its row: a degraded frame is held at this head
abbrev pub staying_as : Telling → ℕ → Standing → Standing
staying_as Consumed head s = s
staying_as Hold head s = record { state = s.state; held = Some head }
staying_as Waits head s = s
staying_as HeldBack head s = s
staying_as Rescued head s = s

-- a row, and the entry stays or leaves
abbrev pub visit_told : Telling → ℕ → List ℕ → Entry → Visit Row
visit_told Consumed head known e = stay (staying_as Consumed head e.standing) (row_of Consumed head known e.frame ∷ [])
visit_told Hold head known e = stay (staying_as Hold head e.standing) (row_of Hold head known e.frame ∷ [])
visit_told Waits head known e = stay (staying_as Waits head e.standing) (row_of Waits head known e.frame ∷ [])
visit_told HeldBack head known e = stay (staying_as HeldBack head e.standing) (row_of HeldBack head known e.frame ∷ [])
visit_told Rescued head known e = leave (row_of Rescued head known e.frame ∷ [])

-- what a row tells of the entry, if one does; else the entry stays as it is
abbrev pub visit_of : Option Telling → ℕ → List ℕ → Entry → Visit Row
visit_of None head known e = stay e.standing []
visit_of (Some t) head known e = visit_told t head known e
