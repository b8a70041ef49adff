-- What the examples speak of: the frame F, calls with slices long enough, and small journals.
use Rattle.std.specs.Prelude.{ℕ, true, List, [], ◌∷◌, ◌++◌, map, length, replicate}
use Rattle.std.specs.Prelude.{Option, None, Some}
use Rattle.lists.specs.Bytes.{Bytes}
use Rattle.wire.specs.Numbers.{digits}
use Rattle.store_rules.specs.Frames.{Frame, Consumed, mined, reparked, Decision, Row}
use Rattle.store_rules.specs.Store.{Store, empty, Call, long, Request, poll, guard, enter_tentative, Answer, step, run}
use Rattle.journal_record.specs.Records.{Fidelity, Park, resolve_mark, legacy_mark}
use Rattle.gap_quarantine_journal.specs.Fold.{Counts, Outcome, folded, refused, fold_into}

-- ---- the store

unfoldable pub address : Bytes
address = replicate 20 1

unfoldable pub frame_hash : Bytes
frame_hash = replicate 32 7

-- h of the examples
unfoldable pub h : Bytes
h = replicate 32 9

unfoldable pub frame : ℕ → ℕ → ℕ → ℕ → Frame
frame expected claim chain_id gas =
    record { hash = frame_hash; from = address; expected = expected; claim = claim; chain_id = chain_id; gas = gas; ticket = 3 }

unfoldable pub frame_f : Frame
frame_f = frame 5 8 1 21000

-- F degraded
unfoldable pub degraded_f : Frame
degraded_f = frame 5 8 0 0

-- the calls have room for one row, or for one frame
unfoldable pub ask : Call → Request
ask c = record { call = c; form = long; numbers = 19; bytes = 64 }

-- the store after these calls
unfoldable pub after : List Call → Store
after cs = run empty (map ask cs)

-- what a call answers after these
unfoldable pub answer : List Call → Call → Answer
answer cs c = (step (after cs) (ask c)).1

-- how many frames are held after these
unfoldable pub held : List Call → ℕ
held cs = length (after cs).entries

unfoldable pub row : Frame → Decision → List ℕ → List Row
row f decision nonces = record { frame = f; decision = decision; nonces = nonces } ∷ []

-- a poll with no content, and one with these pairs
unfoldable pub polled : ℕ → List ℕ → Call
polled head known = poll address head known None

unfoldable pub polled_with : ℕ → List ℕ → List ℕ → Bytes → Call
polled_with head known nonces hashes = poll address head known (Some (record { nonces = nonces; hashes = hashes }))

-- Reparked(predecessors; h; 5)
unfoldable pub repark : List ℕ → Call
repark predecessors = guard (record { hash = frame_hash; kind = reparked 5; predecessors = predecessors; contents = h })

unfoldable pub mined_at100 : Consumed
mined_at100 = record { kind = mined; block = 100; block_hash = h }

unfoldable pub enter_at100 : Call
enter_at100 = enter_tentative frame_hash mined_at100

-- ---- journals

unfoldable pub fold : Bytes → Outcome
fold journal = fold_into journal 15360

unfoldable pub pending_in : Outcome → List Park
pending_in (folded s end) = s.pending
pending_in (refused n at) = []

unfoldable pub counts_in : Outcome → Option Counts
counts_in (folded s end) = Some s.counts
counts_in (refused n at) = None

-- 0x, a capital A, and 63 small ones
unfoldable pub capital_text : Bytes
capital_text = 48 ∷ 120 ∷ 65 ∷ replicate 63 97

-- the hash that it parses to
unfoldable pub capital_hash : Bytes
capital_hash = replicate 32 170

unfoldable pub park_with : Fidelity → Bytes → Park
park_with fidelity text =
    record {
      version = 2;
      text = text;
      from = Some (replicate 20 1);
      sender = Some (replicate 20 2);
      chain_id = 1;
      gas = 21000;
      wire = true;
      list = true;
      claimed = 8;
      expected = 5;
      parked_at = 0;
      fidelity = fidelity;
      tentative = None;
      ticket = 3;
    }

-- QR of a hash
unfoldable pub resolve_bytes : Bytes → Bytes
resolve_bytes hash = resolve_mark ++ (digits 4 2 ++ (hash ++ (1 ∷ digits 8 0)))

-- QL with only a frame hash and a top nonce
unfoldable pub legacy_bytes : Bytes → ℕ → Bytes
legacy_bytes hash nonce = legacy_mark ++ ((1 ∷ hash) ++ (replicate 51 0 ++ ((1 ∷ digits 8 nonce) ++ (replicate 153 0 ++ digits 8 3))))
