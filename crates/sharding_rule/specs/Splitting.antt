-- Splitting adds no refusal. What a host may send to each shard, lent the slices that it would lend to one store, is `items_for`; the
-- claims are `SplitIsRead` and `SplittingRule`.
use Rattle.std.specs.Prelude.{ℕ, ◌≤◌, ◌≡◌, Bool, cond, List, [], ◌∷◌, ◌++◌, eqb, take, drop}
use Rattle.std.specs.Prelude.{Option}
use Rattle.lists.specs.Bytes.{Bytes}
use Rattle.lists.specs.Lists.{collect}
use Rattle.store_rules.specs.Store.{empty, Call}
use Rattle.store_rules.specs.Sweeps.{Sweep, sweep_input_refusal, Item, single, sweep, run_items}
use Rattle.order_rule.specs.Orders.{Key, sender, owner_in, key_by, OneSender, unrefused, calls_read, transcript_read, RoomFor}
use Rattle.sharding_rule.specs.Shards.{goes_to, calls_for, Sharded}

-- ---- a sweep, split

-- a sweep of one sender more, who comes first
unfoldable pub with_sender : Bytes → ℕ → ℕ → List ℕ → Sweep → Sweep
with_sender a head count known w =
    record { senders = a ++ w.senders; heads = head ∷ w.heads; counts = count ∷ w.counts; nonces = known ++ w.nonces; numbers = w.numbers }

-- of these lists, the senders that pass a test, each with its head, its count and its nonces, lent so many numbers
unfoldable pub sweep_of : (Bytes → Bool) → Bytes → List ℕ → List ℕ → List ℕ → ℕ → Sweep
sweep_of p senders [] counts nonces numbers = record { senders = []; heads = []; counts = []; nonces = []; numbers = numbers }
sweep_of p senders (h ∷ hs) [] nonces numbers = record { senders = []; heads = []; counts = []; nonces = []; numbers = numbers }
sweep_of p senders (h ∷ hs) (c ∷ cs) nonces numbers =
    let rest = sweep_of p (drop 20 senders) hs cs (drop c nonces) numbers in
    cond (p (take 20 senders)) (with_sender (take 20 senders) h c (take c nonces) rest) rest

-- ---- what a shard is sent

module _ (key_of : Call → Option Key) (shard_of : Key → ℕ) (n : ℕ) where
  -- a call, if it goes to the shard; a sweep as that of the shard's senders, lent as much, or not at all if it is refused for its inputs
  unfoldable pub item_for : Item → List Item
  item_for (single q) = cond (goes_to key_of shard_of n q.call) (single q ∷ []) []
  item_for (sweep w) =
      unrefused (sweep_input_refusal w) (sweep (sweep_of (λ a. eqb (shard_of (sender a)) n) w.senders w.heads w.counts w.nonces w.numbers) ∷ [])

  unfoldable pub items_for : List Item → List Item
  items_for = collect item_for

-- ---- the claims

-- it is read as the shard's calls, as `Shardable` asks
abbrev pub SplitIsRead : Type 0
SplitIsRead =
    (owner : Bytes → Key) (shard_of : Key → ℕ) (n : ℕ) (is : List Item) →
    calls_read (items_for (key_by owner) shard_of n is) ≡ calls_for (key_by owner) shard_of n (calls_read is)

-- If the store of document 01 has room for all, then so has each shard, and the shards are that store.
abbrev pub SplittingRule : Type 0
SplittingRule =
    (is : List Item) →
    OneSender (calls_read is) →
    RoomFor empty is →
    (shard_of : Key → ℕ) (last : ℕ) →
    ((k : Key) → shard_of k ≤ last) →
    ((n : ℕ) → RoomFor empty (items_for (key_by (owner_in (calls_read is))) shard_of n is))
    × Sharded (owner_in (calls_read is)) shard_of last (λ n. items_for (key_by (owner_in (calls_read is))) shard_of n is) (run_items empty is) (transcript_read empty is)
