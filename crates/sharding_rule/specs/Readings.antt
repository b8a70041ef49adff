-- What is read from shards: of a sender, or of a hash, from its shard; senders merged by address; a number of frames as the sum of the
-- shards' numbers. `tentative_blocks` is not settled by the shards' answers (`Premises.blocks_of_one`): of a block it lists the hash of the
-- last entry walked, and they do not tell whose entry that is. It is the hash that one of the shards lists.
use Rattle.std.specs.Prelude.{ℕ, ◌+◌, ◌≤◌, ◌≡◌, List}
use Rattle.std.specs.Prelude.{None}
use Rattle.lists.specs.Bytes.{Bytes}
use Rattle.store_rules.specs.Frames.{Frame}
use Rattle.store_rules.specs.Store.{Store, empty, Call, push, Answer, total, input_refusal}
use Rattle.store_rules.specs.Sweeps.{Item, run_items}
use Rattle.queries.specs.Queries.{state_of, expected_boundary, len, tentative_count, tentative_blocks, senders, pool_known_gap, has_guard_for_sender}
use Rattle.order_rule.specs.Orders.{Key, sender}
use Rattle.store_laws.specs.Listings.{hash_of}
use Rattle.sharding_rule.specs.Merging.{merge, gather}
use Rattle.sharding_rule.specs.Shards.{unlimited_step, Sharded}

pub record Reads (owner : Bytes → Key) (shard_of : Key → ℕ) (last : ℕ) (stores : ℕ → Store) (one : Store) : Type 0 where
  pub state : (h : Bytes) → state_of h one ≡ state_of h (stores (shard_of (owner h)))
  pub expected_boundary : (h : Bytes) → expected_boundary h one ≡ expected_boundary h (stores (shard_of (owner h)))
  pub pool_known_gap : (a : Bytes) (head pending_count : ℕ) → pool_known_gap a head pending_count one ≡ pool_known_gap a head pending_count (stores (shard_of (sender a)))
  pub has_guard_for_sender : (a : Bytes) → has_guard_for_sender a one ≡ has_guard_for_sender a (stores (shard_of (sender a)))
  pub senders : senders one ≡ gather (merge (λ a. a)) last (λ n. senders (stores n))
  -- the hash of a block is one that a shard has for it, and a block that a shard lists is listed
  pub block_hash : (block : ℕ) → (n : ℕ) × (n ≤ last) × (hash_of block (tentative_blocks one) ≡ hash_of block (tentative_blocks (stores n)))
  pub block_listed : (block : ℕ) → hash_of block (tentative_blocks one) ≡ None → (n : ℕ) → n ≤ last → hash_of block (tentative_blocks (stores n)) ≡ None
  pub len : len one ≡ gather ◌+◌ last (λ n. len (stores n))
  pub tentative_count : tentative_count one ≡ gather ◌+◌ last (λ n. tentative_count (stores n))

-- a push's total is how many frames the one store then holds, and so the sum of the shards' numbers
abbrev pub TotalRule : Type 0
TotalRule = (s : Store) (f : Frame) → input_refusal (push f) ≡ None → (unlimited_step s (push f)).1 ≡ total (len (unlimited_step s (push f)).0)

-- of shards that are one store, as the sharding rule says
abbrev pub ReadsRule : Type 0
ReadsRule =
    (owner : Bytes → Key) (shard_of : Key → ℕ) (last : ℕ) →
    ((k : Key) → shard_of k ≤ last) →
    (sent : ℕ → List Item) (one : Store) (lines : List (Call × Answer)) →
    Sharded owner shard_of last sent one lines →
    Reads owner shard_of last (λ n. run_items empty (sent n)) one
