-- Request 2027-07: the totals of a list of calls. Each frame that a push accepts is counted where it comes in, and where it is held or has left.
use Rattle.std.specs.Prelude.{ℕ, Bool, true, false, cond, List, [], ◌∷◌, map, length}
use Rattle.lists.specs.Lists.{keep, sum}
use Rattle.store_rules.specs.Frames.{Decision, rescue, nonce_consumed, still_waiting, Row}
use Rattle.store_rules.specs.Store.{Store, Call, push, poll, guard, enter_tentative, check_reorg, check_finalized, evict_sender, Answer, total, rows, recorded, entered, frames, dead, refused, rows_of, listed}
use Rattle.store_rules.specs.Sweeps.{Item, single, sweep, step_item, run_items}

-- ---- what one answer adds

-- a successful push
unfoldable pub accepted_in : Answer → ℕ
accepted_in (total n) = 1
accepted_in (rows l) = 0
accepted_in recorded = 0
accepted_in (entered w) = 0
accepted_in (frames l) = 0
accepted_in (dead l) = 0
accepted_in (refused n) = 0

unfoldable pub is_rescue : Decision → Bool
is_rescue rescue = true
is_rescue nonce_consumed = false
is_rescue still_waiting = false

-- the Rescue rows
unfoldable pub rescued_in : Answer → ℕ
rescued_in a = length (keep (λ (r : Row). is_rescue r.decision) (rows_of a))

-- the frames that finality lists
unfoldable pub dead_in : Answer → ℕ
dead_in (total n) = 0
dead_in (rows l) = 0
dead_in recorded = 0
dead_in (entered w) = 0
dead_in (frames l) = 0
dead_in (dead l) = length l
dead_in (refused n) = 0

-- an eviction; a reorganisation answers frames too, and they stay
abbrev pub is_eviction : Call → Bool
is_eviction (push f) = false
is_eviction (poll a head known content) = false
is_eviction (guard g) = false
is_eviction (enter_tentative h c) = false
is_eviction (check_reorg b canonical) = false
is_eviction (check_finalized n) = false
is_eviction (evict_sender a) = true

-- the frames that eviction lists
unfoldable pub evicted_in : Item → Answer → ℕ
evicted_in (single q) a = cond (is_eviction q.call) (listed a) 0
evicted_in (sweep w) a = 0

-- ---- the totals

pub record Totals : Type 0 where
  pub accepted : ℕ
  pub held : ℕ
  pub rescued : ℕ
  pub dead : ℕ
  pub evicted : ℕ

-- each call of a run, with its answer
unfoldable pub answers : Store → List Item → List (Item × Answer)
answers s [] = []
answers s (i ∷ is) = (i, (step_item s i).1) ∷ answers (step_item s i).0 is

-- held are the entries left at the end; the others are counted over the answers
unfoldable pub totals : Store → List Item → Totals
totals s is =
    record {
      accepted = sum (map (λ x. accepted_in x.1) (answers s is));
      held = length (run_items s is).entries;
      rescued = sum (map (λ x. rescued_in x.1) (answers s is));
      dead = sum (map (λ x. dead_in x.1) (answers s is));
      evicted = sum (map (λ x. evicted_in x.0 x.1) (answers s is));
    }
