-- Request 2027-05: sweeps of F and of a frame of another sender.
use Rattle.std.specs.Prelude.{ℕ, ◌≡◌, List, [], ◌∷◌, ◌++◌, map, replicate}
use Rattle.lists.specs.Bytes.{Bytes}
use Rattle.store_rules.specs.Frames.{Frame, rescue, still_waiting}
use Rattle.store_rules.specs.Store.{Store, push, Answer, rows, refused}
use Rattle.store_rules.specs.Sweeps.{Sweep, sweep_step}
use Rattle.worked_examples.specs.Setting.{address, frame_f, after, row}

unfoldable pub other_address : Bytes
other_address = replicate 20 2

-- as F, of another sender
unfoldable pub frame_g : Frame
frame_g = record { hash = replicate 32 8; from = other_address; expected = 5; claim = 8; chain_id = 1; gas = 21000; ticket = 4 }

-- the sender of F, that of G, and the sender of F again, at head 5
unfoldable pub swept : List ℕ → List ℕ → ℕ → Sweep
swept counts nonces numbers = record { senders = address ++ (other_address ++ address); heads = 5 ∷ 5 ∷ 5 ∷ []; counts = counts; nonces = nonces; numbers = numbers }

-- what the sweep does when both frames were pushed
unfoldable pub swept_both : List ℕ → List ℕ → ℕ → Store × Answer
swept_both counts nonces numbers = sweep_step (after (push frame_f ∷ push frame_g ∷ [])) (swept counts nonces numbers)

pub record Sweeps : Type 0 where
  -- known 5 6 7 of F: Rescue; 5 7 of G: StillWaiting 6; the sender of F, polled again, has no entry left
  pub answered : (swept_both (3 ∷ 2 ∷ 0 ∷ []) (5 ∷ 6 ∷ 7 ∷ 5 ∷ 7 ∷ []) 57).1 ≡ rows (row frame_f rescue (5 ∷ 6 ∷ 7 ∷ []) ++ row frame_g still_waiting (6 ∷ []))
  pub held : map (λ e. e.frame) (swept_both (3 ∷ 2 ∷ 0 ∷ []) (5 ∷ 6 ∷ 7 ∷ 5 ∷ 7 ∷ []) 57).0.entries ≡ frame_g ∷ []
  -- a sender listed twice counts twice: 19 numbers for each of three
  pub one_number_short : (swept_both (3 ∷ 2 ∷ 0 ∷ []) (5 ∷ 6 ∷ 7 ∷ 5 ∷ 7 ∷ []) 56).1 ≡ refused 5
  -- a count over 256, and no room
  pub big_count : (swept_both (257 ∷ 0 ∷ 0 ∷ []) (replicate 257 5) 0).1 ≡ refused 3
  -- a count over 256, and a wrong sum
  pub wrong_sum : (swept_both (257 ∷ 0 ∷ 0 ∷ []) (5 ∷ []) 0).1 ≡ refused 18
  -- a count too few, and a wrong sum
  pub two_counts : (swept_both (257 ∷ 0 ∷ []) (5 ∷ []) 0).1 ≡ refused 17
