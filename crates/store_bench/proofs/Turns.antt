-- Polls of 64 senders one after another: one poll more.
use Prim.Native.Nat.{ℕ, ◌+◌, ◌*◌, ◌≤◌, ◌%◌}
use mathlib.Core.Path.{◌≡◌, refl}
use mathlib.Core.Bool.{Bool, true, false}
use mathlib.Core.List.{List, [], ◌∷◌}
use Rattle.std.specs.Prelude.{None}
use Rattle.std.specs.Option.{option_or}
use native.Mathlib.Numerals.{add-one}
use native.Mathlib.Omega.{arith}
use lib.Dec.{ltb}
use lib.ListN.{length}
use borrow.Author.Tests.{ltb-false}
use Rattle.lists.specs.Bytes.{Bytes}
use Rattle.store_rules.specs.Poll.{poll_rule}
use Rattle.store_rules.specs.Rules.{only_of}
use Rattle.store_rules.specs.Lookup.{entries_of}
use Rattle.store_rules.specs.Store.{Store, poll, long, rows, row_width, walk, walked, effect, when, bad_content, input_refusal, room_refusal, refusal, unless, step}
use Rattle.store_rules.specs.Answers.{said}
use Rattle.store_rules.proofs.PollRows.{few-rows}
use Rattle.store_bench.specs.Loads.{sender_at, lone, counted, told, polled_in_turn}

-- with room for one row, a poll tells of at most one
poll-few : (s : Store) (a : Bytes) (head : ℕ) (known : List ℕ) → told s (poll a head known None) 19 0 ≤ 1
unfolding step unless refusal input_refusal room_refusal row_width bad_content when effect walked said
poll-few s a head known = go (ltb 256 (length known)) (ltb 19 (19 * length (entries_of a s.entries))) refl
  where
    go : (x y : Bool) → ltb 19 (19 * length (entries_of a s.entries)) ≡ y →
        counted (said long (unless (option_or (option_or (when x 3) None) (when y 5)) s (walked (walk (only_of a (poll_rule head known None)) s.entries s.guards) rows)).1) ≤ 1
    go true y e = omega arith
    go false true e = omega arith
    go false false e = omega (arith, few-rows a head known None s.entries s.guards, ltb-false 19 (19 * length (entries_of a s.entries)) e)

-- after i of the rounds
pub record Turned (s : Store) (seen i : ℕ) : Type 0 where
  pub store : s ≡ (polled_in_turn i).0
  pub all : seen ≡ (polled_in_turn i).1
  pub few : seen ≤ i

pub none-turned : Turned (lone 64) 0 0
unfolding polled_in_turn
none-turned = record { store = refl; all = refl; few = omega arith }

module _ (s : Store) (seen i : ℕ) (t : Turned s seen i) (n : ℕ) (tells : n ≡ told s (poll (sender_at (i % 64)) 5 (6 ∷ []) None) 19 0) where
  pub tells-few : n ≤ 1
  tells-few = rw tells (poll-few s (sender_at (i % 64)) 5 (6 ∷ []))

  pub one-turned : (s' : Store) → s' ≡ (step s (record { call = poll (sender_at (i % 64)) 5 (6 ∷ []) None; form = long; numbers = 19; bytes = 0 })).0 → Turned s' (seen + n) (i + 1)
  unfolding polled_in_turn
  one-turned s' e = record {
    store = rw (add-one i, e, t.store);
    all = rw (add-one i, tells, t.all, t.store);
    few = omega (arith, t.few, tells-few);
  }
