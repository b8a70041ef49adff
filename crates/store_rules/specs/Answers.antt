-- What an answer comes to: its number, and the numbers and bytes that it puts into the lent slices.
use Rattle.std.specs.Prelude.{ℕ, Bool, true, false, List, [], ◌∷◌, ◌++◌, length, replicate}
use Rattle.std.specs.Prelude.{None, Some}
use Rattle.std.specs.Int.Count.{ones}
use Rattle.lists.specs.Bytes.{Bytes}
use Rattle.lists.specs.Lists.{collect, written}
use Rattle.short_rows.specs.Mark.{mark_of}
use Rattle.store_rules.specs.Frames.{Frame, ConsumedKind, mined, taken, taken_by, Decision, rescue, nonce_consumed, still_waiting, Row, Dead}
use Rattle.store_rules.specs.Store.{RowForm, long, short, Answer, total, rows, recorded, entered, frames, dead, refused}

-- ---- the numbers of document 01

unfoldable pub decision_number : Decision → ℕ
decision_number rescue = 1
decision_number nonce_consumed = 2
decision_number still_waiting = 3

unfoldable pub kind_number : ConsumedKind → ℕ
kind_number mined = 1
kind_number taken = 2
kind_number (taken_by h) = 3

-- the taker's hash, or zeros
unfoldable pub taker_hash : ConsumedKind → Bytes
taker_hash mined = replicate 32 0
taker_hash taken = replicate 32 0
taker_hash (taken_by h) = h

-- ---- what is listed of one frame

-- a row is 19 numbers: ticket, decision, count, up to 16 nonces ascending, then zeros;
-- a short row is five: ticket, decision, expected nonce, the mark of the nonces, and its number of set bits
unfoldable pub row_numbers : RowForm → Row → List ℕ
row_numbers long r = r.frame.ticket ∷ decision_number r.decision ∷ length r.nonces ∷ written r.nonces (replicate 16 0)
row_numbers short r =
    let mark = mark_of r.frame.expected r.nonces in
    r.frame.ticket ∷ decision_number r.decision ∷ r.frame.expected ∷ mark ∷ ones mark ∷ []

unfoldable pub ticket_numbers : Frame → List ℕ
ticket_numbers f = f.ticket ∷ []

-- finality lists ticket, block, kind ..
unfoldable pub dead_numbers : Dead → List ℕ
dead_numbers d = d.frame.ticket ∷ d.consumed.block ∷ kind_number d.consumed.kind ∷ []

-- .. and 64 bytes: block hash, taker or zeros
unfoldable pub dead_bytes : Dead → Bytes
dead_bytes d = d.consumed.block_hash ++ taker_hash d.consumed.kind

-- ---- what an answer writes

-- its rows in this form
unfoldable pub numbers_of : RowForm → Answer → List ℕ
numbers_of form (total n) = []
numbers_of form (rows l) = collect (row_numbers form) l
numbers_of form recorded = []
numbers_of form (entered w) = []
numbers_of form (frames l) = collect ticket_numbers l
numbers_of form (dead l) = collect dead_numbers l
numbers_of form (refused n) = []

unfoldable pub bytes_of : Answer → Bytes
bytes_of (total n) = []
bytes_of (rows l) = []
bytes_of recorded = []
bytes_of (entered w) = []
bytes_of (frames l) = []
bytes_of (dead l) = collect dead_bytes l
bytes_of (refused n) = []

-- ---- what an answer says: a total, how many are listed, true or false, or a refusal's number

pub data Said : Type 0 where
  says_total : ℕ → Said
  -- how many rows, and in which form they are written
  says_rows : RowForm → ℕ → Said
  says_recorded : Said
  -- true or false; and sender and place, zeros where it is false
  says_entered : Bool → Bytes → ℕ → Said
  says_frames : ℕ → Said
  says_dead : ℕ → Said
  says_refused : ℕ → Said

unfoldable pub said : RowForm → Answer → Said
said form (total n) = says_total n
said form (rows l) = says_rows form (length l)
said form recorded = says_recorded
said form (entered (Some w)) = says_entered true w.sender w.place
said form (entered None) = says_entered false (replicate 20 0) 0
said form (frames l) = says_frames (length l)
said form (dead l) = says_dead (length l)
said form (refused n) = says_refused n
