-- What each call does to the store that its loop runs on: computed.
use Prim.Native.Nat.{ℕ, ◌≤◌}
use mathlib.Core.Path.{◌≡◌, refl}
use mathlib.Core.Bool.{Bool, true, false}
use native.Mathlib.Omega.{arith}
use lib.Dec.{ltb}
use Rattle.lists.specs.Bytes as bytes
use Rattle.lists.specs.Lists as lists
use Rattle.lists.specs.Search as search
use Rattle.store_rules.specs.Frames as frames
use Rattle.store_rules.specs.Poll as polls
use Rattle.store_rules.specs.Rules as rules
use Rattle.store_rules.specs.Lookup as lookups
use Rattle.store_rules.specs.Store as stores
use Rattle.store_rules.specs.Answers as answers
use Rattle.store_rules.specs.Answers.{said}
use Rattle.store_rules.specs.Sweeps as sweeps
use Rattle.store_rules.specs.Sweeps.{sweep_step}
use Rattle.store_rules.specs.Store.{empty, push, long, short, check_finalized}
use Rattle.store_bench.specs.Loads.{frame, waiting, rescuing, guarded, mining, evicting, after, size_of, sized, filled, pushed, guarded_by, lone, addresses, sweeping, counted, told_in, told, Goes}

-- the rounds whose store goes to the next, and calls on a store of 8 frames that is kept
pub record Computed : Type 0 where
  pub polled : Goes (pushed 8) waiting 152 0 (pushed 8) 8
  pub guarded-polled : Goes (guarded_by 8) guarded 152 0 (guarded_by 8) 8
  pub rescued : Goes (after empty (push (frame 0))) rescuing 19 0 empty 1
  pub ended : Goes (after (after empty (push (frame 0))) mining) (check_finalized 100) 3 64 empty 1
  pub ninth : told (pushed 8) (push (frame 8)) 0 0 ≡ 9
  pub evicts : told (pushed 8) evicting 64 0 ≡ 8
  pub ends : told (after (pushed 8) mining) (check_finalized 100) 3 64 ≡ 1

pub computed : Computed
unfolding bytes.eq_bytes bytes.le_bytes lists.keep lists.is_empty lists.is_in lists.numbers_from frames.degraded polls.gap polls.predecessors polls.unknown polls.first_is polls.contents_hold polls.content_matches polls.boundary_holds polls.guard_matches polls.stay polls.leave polls.row polls.poll_full polls.poll_in polls.poll_given polls.poll_rule rules.only_of rules.evict_rule rules.final_in rules.final_rule stores.empty stores.guard_of stores.drop_guard stores.put_guard stores.after stores.walk stores.walked stores.fresh stores.insert frames.is_tracked search.first_at lookups.entries_of lookups.enters lookups.found_behind lookups.first_of lookups.lookup lookups.is_found lookups.enter_with lookups.enter_head lookups.enter_first stores.effect stores.when stores.wide_gap stores.bad_content stores.bad_contents stores.no_room_for stores.input_refusal stores.listed stores.room_refusal stores.row_width stores.refusal stores.unless stores.step answers.said filled guarded_by
computed =
    record {
      polled = record { store = refl; seen = refl };
      guarded-polled = record { store = refl; seen = refl };
      rescued = record { store = refl; seen = refl };
      ended = record { store = refl; seen = refl };
      ninth = refl;
      evicts = refl;
      ends = refl;
    }

-- polls of so many frames, and the entering of the first
pub record Polled (n : ℕ) : Type 0 where
  pub few : n ≤ 64
  pub waits : told (pushed n) waiting 1216 0 ≡ n
  pub waits-short : told_in short (pushed n) waiting 320 0 ≡ n
  pub held_back : told (guarded_by n) guarded 1216 0 ≡ n
  pub rescued : told (pushed n) rescuing 1216 0 ≡ n
  pub enters : told (pushed n) mining 0 0 ≡ 1

by_size : (a b : Bool) → Polled (size_of a b)
unfolding bytes.eq_bytes bytes.le_bytes lists.keep lists.is_empty lists.is_in lists.numbers_from frames.degraded polls.gap polls.predecessors polls.unknown polls.first_is polls.contents_hold polls.content_matches polls.boundary_holds polls.guard_matches polls.stay polls.leave polls.row polls.poll_full polls.poll_in polls.poll_given polls.poll_rule rules.only_of rules.evict_rule rules.final_in rules.final_rule stores.empty stores.guard_of stores.drop_guard stores.put_guard stores.after stores.walk stores.walked stores.fresh stores.insert frames.is_tracked search.first_at lookups.entries_of lookups.enters lookups.found_behind lookups.first_of lookups.lookup lookups.is_found lookups.enter_with lookups.enter_head lookups.enter_first stores.effect stores.when stores.wide_gap stores.bad_content stores.bad_contents stores.no_room_for stores.input_refusal stores.listed stores.room_refusal stores.row_width stores.refusal stores.unless stores.step answers.said filled guarded_by
by_size true b = record { few = omega arith; waits = refl; waits-short = refl; held_back = refl; rescued = refl; enters = refl }
by_size false true = record { few = omega arith; waits = refl; waits-short = refl; held_back = refl; rescued = refl; enters = refl }
by_size false false = record { few = omega arith; waits = refl; waits-short = refl; held_back = refl; rescued = refl; enters = refl }

pub at_size : (n : ℕ) → Polled (sized n)
at_size n = by_size (ltb n 8) (ltb n 64)

-- a sweep of 64 senders with a frame each
pub record Swept : Type 0 where
  pub store : (sweep_step (lone 64) sweeping).0 ≡ lone 64
  pub seen : counted (said long (sweep_step (lone 64) sweeping).1) ≡ 64

pub swept : Swept
unfolding bytes.eq_bytes bytes.le_bytes lists.keep lists.is_empty lists.is_in lists.numbers_from lists.sum lists.chunks frames.degraded polls.gap polls.predecessors polls.unknown polls.guard_matches polls.stay polls.leave polls.row polls.poll_full polls.poll_in polls.poll_given polls.poll_rule rules.only_of stores.empty stores.guard_of stores.drop_guard stores.after stores.walk stores.walked stores.fresh stores.insert lookups.entries_of stores.effect stores.when stores.wide_gap stores.bad_content stores.input_refusal stores.listed stores.rows_of stores.room_refusal stores.row_width stores.refusal stores.unless stores.step stores.run answers.said answers.numbers_of answers.row_numbers answers.decision_number lists.collect sweeps.polls_from sweeps.in_turn sweeps.polls_in sweeps.rows_listed sweeps.bad_lists sweeps.bad_sum sweeps.big_count sweeps.sweep_input_refusal sweeps.listed_entries sweeps.sweep_room_refusal sweeps.sweep_refusal sweeps.sweep_effect sweeps.sweep_step filled addresses
swept = record { store = refl; seen = refl }
