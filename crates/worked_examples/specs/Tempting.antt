-- The readings that document 01 calls tempting and wrong: for each, an input on which it would answer something else.
use Rattle.std.specs.Prelude.{◌≡◌, [], ◌∷◌, ◌++◌, map, replicate}
use Rattle.std.specs.Prelude.{Some}
use Rattle.wire.specs.HashText.{canonical}
use Rattle.store_rules.specs.Frames.{rescue}
use Rattle.store_rules.specs.Store.{push, rows}
use Rattle.journal_record.specs.Records.{full, degraded}
use Rattle.journal_writer.specs.Writing.{park_bytes}
use Rattle.gap_quarantine_journal.specs.Restore.{restored, restore}
use Rattle.worked_examples.specs.Setting.{h, frame_hash, frame_f, answer, row, polled, polled_with, repark, fold, pending_in, counts_in, capital_text, capital_hash, park_with, resolve_bytes}

pub record Tempting : Type 0 where
  -- consuming at head equal to claim would answer NonceConsumed
  pub consume_at_claim : answer (push frame_f ∷ []) (polled 8 []) ≡ rows (row frame_f rescue [])
  -- counting a degraded QP in degraded would answer 1
  pub count_degraded_park :
      counts_in (fold (park_bytes (park_with degraded capital_text))) ≡ Some (record { skipped = 0; migrated = 0; degraded = 0 })
  -- parsing the key before lookup would leave none
  pub parse_key : map (λ p. p.text) (pending_in (fold (park_bytes (park_with full capital_text) ++ resolve_bytes capital_hash))) ≡ capital_text ∷ []
  -- searching all current pairs would find (7, h) behind another pair of nonce 7, and answer StillWaiting
  pub search_all_pairs :
      answer (push frame_f ∷ repark (7 ∷ []) ∷ []) (polled_with 7 (7 ∷ []) (7 ∷ 7 ∷ []) (frame_hash ++ h)) ≡ rows (row frame_f rescue (7 ∷ []))
  -- taking a full frame's address from sender would answer the bytes 2
  pub sender_for_from :
      restore (park_bytes (park_with full (canonical capital_hash)))
      ≡ restored (record { hash = capital_hash; from = replicate 20 1; expected = 5; claim = 8; chain_id = 1; gas = 21000; ticket = 3 })
