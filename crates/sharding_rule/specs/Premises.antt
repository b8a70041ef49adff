-- None of the sharding rule's premises is idle: for each, a list that satisfies the others and of which the shards hold something else
-- than the one store. And a list that satisfies all of them, in which a finality ends frames of two shards, and a sweep is split. Last,
-- why `tentative_blocks` cannot be merged: two lists of which every shard answers the same, and the one store does not.
use Rattle.std.specs.Prelude.{ℕ, ◌≤◌, ◌≡◌, cond, List, [], ◌∷◌, map, eqb, replicate}
use Rattle.lists.specs.Bytes.{Bytes, eq_bytes}
use Rattle.lists.specs.Lists.{collect}
use Rattle.store_rules.specs.Frames.{mined}
use Rattle.store_rules.specs.Store.{empty, Call, enter_tentative, Answer}
use Rattle.store_rules.specs.Sweeps.{Item, run_items}
use Rattle.order_rule.specs.Orders.{Key, sender, alone, owner_in, key_by, OneSender, calls_read, transcript_read, RoomFor}
use Rattle.queries.specs.Queries.{Block, tentative_blocks}
use Rattle.order_rule.specs.Premises.{a, b, h, i, ask, parks, parks_of, enters100, finalized100, sweeps}
use Rattle.sharding_rule.specs.Merging.{merge, gather, dead_frames}
use Rattle.sharding_rule.specs.Shards.{unlimited_run, unlimited_transcript, calls_for, Sharded}
use Rattle.sharding_rule.specs.Splitting.{items_for}

-- ---- two shards: 1 is that of a, who comes before b in walk order, and 0 that of all others

unfoldable pub two_shards : Key → ℕ
two_shards (sender x) = cond (eq_bytes x a) 1 0
two_shards (alone x) = 0

-- what a host sends that reads the owners from the calls
abbrev pub split : List Item → ℕ → List Item
split is n = items_for (key_by (owner_in (calls_read is))) two_shards n is

-- ---- what is said of a list and of what the shards are sent

-- each shard is sent what is read as its calls
abbrev pub SentItsCalls : (Bytes → Key) → List Item → (ℕ → List Item) → Type 0
SentItsCalls owner is sent = (n : ℕ) → n ≤ 1 → calls_read (sent n) ≡ calls_for (key_by owner) two_shards n (calls_read is)

abbrev pub ShardsHaveRoom : (ℕ → List Item) → Type 0
ShardsHaveRoom sent = (n : ℕ) → n ≤ 1 → RoomFor empty (sent n)

-- shards 0 to `last` are the one store without limits of room
abbrev pub AsOne : (Bytes → Key) → ℕ → List Item → (ℕ → List Item) → Type 0
AsOne owner last is sent = Sharded owner two_shards last sent (unlimited_run empty (calls_read is)) (unlimited_transcript empty (calls_read is))

-- whose the frames are that die in a run
abbrev pub dying : List (Call × Answer) → List Bytes
dying lines = map (λ d. d.frame.from) (collect (λ (t : Call × Answer). dead_frames t.1) lines)

-- ---- the lists

-- a finality ends a frame of each sender; the next two are rescued by a sweep
unfoldable pub both_die : List Item
both_die = parks h b ∷ parks i a ∷ enters100 h ∷ enters100 i ∷ finalized100 ∷ parks h b ∷ parks i a ∷ sweeps 38 (a ∷ b ∷ []) ∷ []

-- two senders of one hash: what enters is a's frame in the one store, and b's in the shards
unfoldable pub two_senders : List Item
two_senders = parks h b ∷ parks h a ∷ enters100 h ∷ []

-- a's frame enters
unfoldable pub one_enters : List Item
one_enters = parks h a ∷ enters100 h ∷ []

-- a's frame dies, but its shard is not sent the finality
unfoldable pub one_dies : List Item
one_dies = parks h a ∷ enters100 h ∷ finalized100 ∷ []

unfoldable pub finality_for_shard0 : ℕ → List Item
finality_for_shard0 n = cond (eqb n 0) (finalized100 ∷ []) one_enters

-- 65 frames for one shard
unfoldable pub too_many : List Item
too_many = parks_of 65

-- ---- two frames that are tentative at block 100 with different hashes: b's, and one of a sender before b, or after b, in walk order

-- mined in block 100, whose hash is this byte 32 times
unfoldable pub enters_with : ℕ → Bytes → Item
enters_with byte hash = ask (enter_tentative hash (record { kind = mined; block = 100; block_hash = replicate 32 byte }))

unfoldable pub beside : Bytes → List Item
beside from = parks h from ∷ parks i b ∷ enters_with 5 h ∷ enters_with 6 i ∷ []

unfoldable pub c : Bytes
c = replicate 20 3

-- shard 0 is b's, and 1 that of all others
unfoldable pub b_apart : Key → ℕ
b_apart (sender x) = cond (eq_bytes x b) 0 1
b_apart (alone x) = 1

-- what a shard answers to `tentative_blocks`
abbrev pub blocks_of : List Item → ℕ → List Block
blocks_of is n = tentative_blocks (run_items empty (items_for (key_by (owner_in (calls_read is))) b_apart n is))

-- ---- the claims

pub record Premises : Type 0 where
  -- all of them together, and what the rule then says
  pub together : OneSender (calls_read both_die) × SentItsCalls (owner_in (calls_read both_die)) both_die (split both_die) × ShardsHaveRoom (split both_die)
  pub as_one : AsOne (owner_in (calls_read both_die)) 1 both_die (split both_die)
  -- shard 0 tells that b's frame dies, shard 1 that a's does; merged, a's comes first, as in the one store
  pub walk_order :
      (dying (transcript_read empty (split both_die 0)) ≡ b ∷ [])
      × (dying (transcript_read empty (split both_die 1)) ≡ a ∷ [])
      × (gather (merge (λ x. x)) 1 (λ n. dying (transcript_read empty (split both_die n))) ≡ a ∷ b ∷ [])
      × (dying (unlimited_transcript empty (calls_read both_die)) ≡ a ∷ b ∷ [])
  -- without the premise on pushes
  pub one_sender :
      SentItsCalls (owner_in (calls_read two_senders)) two_senders (split two_senders)
      × ShardsHaveRoom (split two_senders)
      × (AsOne (owner_in (calls_read two_senders)) 1 two_senders (split two_senders) → ⊥)
  -- owners that the host tells wrongly: the entering goes by its hash alone, and so to another shard than the frame
  pub told_owner :
      OneSender (calls_read one_enters)
      × SentItsCalls alone one_enters (λ n. items_for (key_by alone) two_shards n one_enters)
      × ShardsHaveRoom (λ n. items_for (key_by alone) two_shards n one_enters)
      × (AsOne alone 1 one_enters (λ n. items_for (key_by alone) two_shards n one_enters) → ⊥)
  -- a shard that is not sent every finality
  pub sent_to_all : OneSender (calls_read one_dies) × ShardsHaveRoom finality_for_shard0 × (AsOne (owner_in (calls_read one_dies)) 1 one_dies finality_for_shard0 → ⊥)
  -- a sender whose shard is past the last
  pub placed :
      OneSender (calls_read one_enters)
      × SentItsCalls (owner_in (calls_read one_enters)) one_enters (split one_enters)
      × ShardsHaveRoom (split one_enters)
      × (AsOne (owner_in (calls_read one_enters)) 0 one_enters (split one_enters) → ⊥)
  -- without the premise on room
  pub room :
      OneSender (calls_read too_many)
      × SentItsCalls (owner_in (calls_read too_many)) too_many (split too_many)
      × (AsOne (owner_in (calls_read too_many)) 1 too_many (split too_many) → ⊥)
  -- with a's frame or with c's, the shards answer the same of their blocks ..
  pub blocks_of_shards : (blocks_of (beside a) 0 ≡ blocks_of (beside c) 0) × (blocks_of (beside a) 1 ≡ blocks_of (beside c) 1)
  -- .. and one store does not
  pub blocks_of_one : tentative_blocks (run_items empty (beside a)) ≡ tentative_blocks (run_items empty (beside c)) → ⊥
