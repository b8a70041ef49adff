-- What holds of every refusal: its number is one of its place's, what it hangs on, and that a refused call changes nothing; the
-- same of sweeps, and that no poll of a sweep is refused unless the sweep is.
use Rattle.std.specs.Prelude.{ℕ, ◌*◌, ◌≤◌, ◌≡◌, true, false, List, [], ◌∷◌, length}
use Rattle.std.specs.Prelude.{None, Some}
use Rattle.lists.specs.Bytes.{Bytes}
use Rattle.lists.specs.Lists.{Each, sum, is_in}
use Rattle.store_rules.specs.Frames.{Row}
use Rattle.store_rules.specs.Store.{Store, Call, push, poll, guard, enter_tentative, check_reorg, check_finalized, evict_sender, Request, Answer, rows, refused, refusal, step}
use Rattle.store_rules.specs.Sweeps.{Sweep, polls_in, sweep_input_refusal, sweep_refusal, sweep_step}
use Rattle.order_rule.specs.Orders.{transcript}
use Rattle.queries.specs.Queries.{blocks_refusal, senders_refusal, gap_refusal}

-- document 01's table: the numbers of a call's place
unfoldable pub place_numbers : Call → List ℕ
place_numbers (push f) = 1 ∷ 2 ∷ []
place_numbers (poll a head known content) = 3 ∷ 4 ∷ 5 ∷ []
place_numbers (guard g) = 6 ∷ 7 ∷ 8 ∷ []
place_numbers (enter_tentative h c) = []
place_numbers (check_reorg b canonical) = 5 ∷ []
place_numbers (check_finalized n) = 5 ∷ []
place_numbers (evict_sender a) = 5 ∷ []

-- a refusal is one of its place's
abbrev pub RefusedByPlace : Type 0
RefusedByPlace = (s : Store) (q : Request) (n : ℕ) → refusal s q ≡ Some n → is_in n (place_numbers q.call) ≡ true

-- refusals but 2, 5 and 8 hang on inputs alone: they are the same at every store
abbrev pub RefusedByInputs : Type 0
RefusedByInputs = (s t : Store) (q : Request) (n : ℕ) → refusal s q ≡ Some n → is_in n (2 ∷ 5 ∷ 8 ∷ []) ≡ false → refusal t q ≡ Some n

-- the calls that only read and list: blocks, senders, nonces
pub record ReadingRefused (s : Store) : Type 0 where
  pub blocks : (numbers bytes n : ℕ) → blocks_refusal s numbers bytes ≡ Some n → n ≡ 5
  pub senders : (bytes n : ℕ) → senders_refusal s bytes ≡ Some n → n ≡ 5
  pub nonces : (sender : Bytes) (head pending_count numbers n : ℕ) → gap_refusal sender head pending_count s numbers ≡ Some n → n ≡ 5

-- a refused call answers its number and changes nothing
abbrev pub RefusedChangesNothing : Type 0
RefusedChangesNothing = (s : Store) (q : Request) (n : ℕ) → refusal s q ≡ Some n → step s q ≡ (s, refused n)

-- ---- sweeps (request 2027-05)

-- its numbers, in the order of its tests
unfoldable pub sweep_numbers : List ℕ
sweep_numbers = 17 ∷ 18 ∷ 3 ∷ 5 ∷ []

-- a sweep that is refused with this number
pub record SweepRefused (s : Store) (w : Sweep) (n : ℕ) : Type 0 where
  pub number : is_in n sweep_numbers ≡ true
  -- but for 5, it hangs on inputs alone: it is the same at every store
  pub inputs : (n ≡ 5 → ⊥) → (t : Store) → sweep_refusal t w ≡ Some n
  -- it is answered, and nothing changes
  pub unchanged : sweep_step s w ≡ (s, refused n)

abbrev pub EverySweepRefusal : Type 0
EverySweepRefusal = (s : Store) (w : Sweep) (n : ℕ) → sweep_refusal s w ≡ Some n → SweepRefused s w n

-- inputs for which a sweep is refused with none of 17, 18 and 3
pub record SoundInputs (w : Sweep) : Type 0 where
  pub senders : length w.heads ≤ 64
  pub bytes : length w.senders ≡ 20 * length w.heads
  pub counts : length w.heads ≡ length w.counts
  pub nonces : sum w.counts ≡ length w.nonces
  pub few : Each (λ n. n ≤ 256) w.counts

-- a sweep is refused for its inputs exactly when they are not sound
pub record RefusedUnsound (w : Sweep) : Type 0 where
  pub sound : sweep_input_refusal w ≡ None → SoundInputs w
  pub accepted : SoundInputs w → sweep_input_refusal w ≡ None

-- no poll of a sweep that is not refused is refused: each answers rows
abbrev pub SweepPollsAnswer : Type 0
SweepPollsAnswer = (s : Store) (w : Sweep) → sweep_refusal s w ≡ None → Each (λ (t : Call × Answer). (l : List Row) × (t.1 ≡ rows l)) (transcript s (polls_in s w))
