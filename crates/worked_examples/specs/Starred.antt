-- Document 01's thirteen starred examples, as one claim.
use Rattle.std.specs.Prelude.{ℕ, ◌≡◌, [], ◌∷◌, ◌++◌, map, length}
use Rattle.std.specs.Prelude.{None, Some}
use Rattle.lists.specs.Bytes.{Bytes}
use Rattle.store_rules.specs.Frames.{rescue, nonce_consumed, still_waiting}
use Rattle.store_rules.specs.Store.{push, check_reorg, check_finalized, rows, frames, dead}
use Rattle.journal_record.specs.Records.{full}
use Rattle.journal_writer.specs.Writing.{park_bytes}
use Rattle.worked_examples.specs.Setting.{h, frame, frame_f, degraded_f, answer, held, row, polled, polled_with, repark, mined_at100, enter_at100, fold, pending_in, counts_in, capital_text, capital_hash, park_with, resolve_bytes, legacy_bytes}

pub record Starred : Type 0 where
  -- head 5: known 5 6 7 Rescue 5 6 7
  pub all_known : answer (push frame_f ∷ []) (polled 5 (5 ∷ 6 ∷ 7 ∷ [])) ≡ rows (row frame_f rescue (5 ∷ 6 ∷ 7 ∷ []))
  -- known 5 7 StillWaiting 6
  pub one_unknown : answer (push frame_f ∷ []) (polled 5 (5 ∷ 7 ∷ [])) ≡ rows (row frame_f still_waiting (6 ∷ []))
  -- head 8, none known: Rescue, count 0
  pub head_at_claim : answer (push frame_f ∷ []) (polled 8 []) ≡ rows (row frame_f rescue [])
  -- head 9: NonceConsumed, still held
  pub head_past_claim :
      (answer (push frame_f ∷ []) (polled 9 []) ≡ rows (row frame_f nonce_consumed [])) × (held (push frame_f ∷ polled 9 [] ∷ []) ≡ 1)
  -- Reparked(7; h; 5), head 7, known 7: content (7,h) StillWaiting 7
  pub guard_holds :
      answer (push frame_f ∷ repark (7 ∷ []) ∷ []) (polled_with 7 (7 ∷ []) (7 ∷ []) h) ≡ rows (row frame_f still_waiting (7 ∷ []))
  -- no content Rescue 7
  pub no_content : answer (push frame_f ∷ repark (7 ∷ []) ∷ []) (polled 7 (7 ∷ [])) ≡ rows (row frame_f rescue (7 ∷ []))
  -- Reparked(empty; h; 5), head 8, any one pair: StillWaiting, count 0
  pub any_one_pair : (nonce : ℕ) (hash : Bytes) → length hash ≡ 32 →
      answer (push frame_f ∷ repark [] ∷ []) (polled_with 8 [] (nonce ∷ []) hash) ≡ rows (row frame_f still_waiting [])
  -- a degraded F gives a row at head 5, none at 5 again, and one at 4; each row lists 5 6 7
  pub degraded_holds :
      (answer (push degraded_f ∷ []) (polled 5 []) ≡ rows (row degraded_f still_waiting (5 ∷ 6 ∷ 7 ∷ [])))
      × (answer (push degraded_f ∷ polled 5 [] ∷ []) (polled 5 []) ≡ rows [])
      × (answer (push degraded_f ∷ polled 5 [] ∷ polled 5 [] ∷ []) (polled 4 []) ≡ rows (row degraded_f still_waiting (5 ∷ 6 ∷ 7 ∷ [])))
  -- expected 9, claim 8, head 8: Rescue, count 0
  pub empty_gap : answer (push (frame 9 8 1 21000) ∷ []) (polled 8 []) ≡ rows (row (frame 9 8 1 21000) rescue [])
  -- tentative at 100: finality 99 keeps, 100 removes
  pub finality :
      (answer (push frame_f ∷ enter_at100 ∷ []) (check_finalized 99) ≡ dead [])
      × (held (push frame_f ∷ enter_at100 ∷ check_finalized 99 ∷ []) ≡ 1)
      × (answer (push frame_f ∷ enter_at100 ∷ []) (check_finalized 100) ≡ dead (record { frame = frame_f; consumed = mined_at100 } ∷ []))
      × (held (push frame_f ∷ enter_at100 ∷ check_finalized 100 ∷ []) ≡ 0)
  -- reorg 100: equal hash none, no hash revived
  pub reorganisation :
      (answer (push frame_f ∷ enter_at100 ∷ []) (check_reorg 100 (Some h)) ≡ frames [])
      × (answer (push frame_f ∷ enter_at100 ∷ []) (check_reorg 100 None) ≡ frames (frame_f ∷ []))
  -- QP with a capital A in its text, then QR of that hash: pending 1
  pub capital_key : length (pending_in (fold (park_bytes (park_with full capital_text) ++ resolve_bytes capital_hash))) ≡ 1
  -- a QL of a frame hash and a top nonce alone is migrated and degraded, and expects the nonce that it claims
  pub bare_legacy :
      (counts_in (fold (legacy_bytes capital_hash 8)) ≡ Some (record { skipped = 0; migrated = 1; degraded = 1 }))
      × (map (λ p. p.expected) (pending_in (fold (legacy_bytes capital_hash 8))) ≡ 8 ∷ [])
      × (map (λ p. p.claimed) (pending_in (fold (legacy_bytes capital_hash 8))) ≡ 8 ∷ [])
