-- Many stores in the place of one. The senders are split over shards, each of which is a store by itself and is sent its senders'
-- calls and every reorganisation and finality; their answers are merged. The claim is `ShardingRule`: the shards answer and hold
-- what one store without limits of room does.
use Rattle.std.specs.Prelude.{ℕ, ◌≤◌, ◌≡◌, Bool, cond, eqb}
use mathlib.Core.List.{List, [], ◌∷◌, ◌++◌, map, Memᴰ}
use Rattle.std.specs.Prelude.{Option, None, Some}
use Rattle.lists.specs.Bytes.{Bytes}
use Rattle.lists.specs.Lists.{keep, Each}
use Rattle.store_rules.specs.Frames.{Frame, Entry}
use Rattle.store_rules.specs.Store.{Store, empty, Sorted, guard_of, Call, push, Answer, effect, input_refusal, unless}
use Rattle.store_rules.specs.Sweeps.{Item, run_items}
use Rattle.store_rules.specs.Totals.{totals}
use Rattle.order_rule.specs.Orders.{Key, sender, owner_in, key_by, concerns, OneSender, shown, calls_read, transcript_read, RoomFor}
use Rattle.sharding_rule.specs.Merging.{merge, gather, join_answers}
use Rattle.sharding_rule.specs.Totals.{totals_told, add_totals}

-- ---- the one store, without limits of room

-- a call is refused for its inputs only
unfoldable pub unlimited_step : Store → Call → Store × Answer
unlimited_step s c = unless (input_refusal c) s (effect s c)

unfoldable pub unlimited_run : Store → List Call → Store
unlimited_run s [] = s
unlimited_run s (c ∷ cs) = unlimited_run (unlimited_step s c).0 cs

-- each call with what it answers, but for a push's total
unfoldable pub unlimited_transcript : Store → List Call → List (Call × Answer)
unlimited_transcript s [] = []
unlimited_transcript s (c ∷ cs) = (c, shown (unlimited_step s c).1) ∷ unlimited_transcript (unlimited_step s c).0 cs

-- ---- the shards 0 to `last`, told each call's key or none, and the shard of each key

module _ (key_of : Call → Option Key) (shard_of : Key → ℕ) where
  -- a sender's call goes to the sender's shard, a reorganisation or a finality to every shard
  unfoldable pub goes_to : ℕ → Call → Bool
  goes_to n c = concerns (λ k. eqb (shard_of k) n) (key_of c)

  -- the calls that go to a shard, in their order
  abbrev pub calls_for : ℕ → List Call → List Call
  calls_for n = keep (goes_to n)

  module _ (last : ℕ) where
    -- what the shards answer to one call
    unfoldable pub merged_answer : Option Key → (ℕ → Answer) → Answer
    merged_answer (Some k) given = given (shard_of k)
    merged_answer None given = gather join_answers last given

    -- One transcript, put together from those of the shards: each call has the next answer of the shard that it goes to, or, if it
    -- goes to all, their next answers merged; and in the end no shard has told of another call.
    pub data MergedFrom : (ℕ → List (Call × Answer)) → List (Call × Answer) → Type 0 where
      nothing : {told : ℕ → List (Call × Answer)} → ((n : ℕ) → n ≤ last → told n ≡ []) → MergedFrom told []
      next : {told later : ℕ → List (Call × Answer)} {lines : List (Call × Answer)} (c : Call) (given : ℕ → Answer) →
          ((n : ℕ) → n ≤ last → told n ≡ cond (goes_to n c) ((c, given n) ∷ later n) (later n)) →
          MergedFrom later lines →
          MergedFrom told ((c, merged_answer (key_of c) given) ∷ lines)

-- the shards' transcripts settle the one that is put together from them
abbrev pub MergedOnce : Type 0
MergedOnce =
    (key_of : Call → Option Key) (shard_of : Key → ℕ) (last : ℕ) →
    ((k : Key) → shard_of k ≤ last) →
    (told : ℕ → List (Call × Answer)) (xs ys : List (Call × Answer)) →
    map (λ t. t.0) xs ≡ map (λ t. t.0) ys →
    MergedFrom key_of shard_of last told xs →
    MergedFrom key_of shard_of last told ys →
    xs ≡ ys

-- ---- the rule

-- What one store holds and answers is what shards 0 to `last` hold and answer, each of which runs what it is sent from an empty store.
pub record Sharded (owner : Bytes → Key) (shard_of : Key → ℕ) (last : ℕ) (sent : ℕ → List Item) (one : Store) (lines : List (Call × Answer)) : Type 0 where
  -- every answer but a push's total
  pub answers : MergedFrom (key_by owner) shard_of last (λ n. transcript_read empty (sent n)) lines
  -- the totals are those of the shards, added column by column
  pub totals : totals_told one lines ≡ gather add_totals last (λ n. totals empty (sent n))
  -- the entries are in walk order, and each frame's sender is the owner of its hash
  pub sorted : Sorted one.entries
  pub owned : Each (λ e. owner e.frame.hash ≡ sender e.frame.from) one.entries
  -- a shard holds the frames of its senders
  pub held : (n : ℕ) → n ≤ last → (run_items empty (sent n)).entries ≡ keep (λ e. eqb (shard_of (sender e.frame.from)) n) one.entries
  -- so the entries are the shards', merged in walk order
  pub entries : one.entries ≡ gather (merge (λ (e : Entry). e.frame.from)) last (λ n. (run_items empty (sent n)).entries)
  -- a hash's guard is with the shard of its owner, and with no other
  pub guards : (n : ℕ) → n ≤ last → (h : Bytes) → guard_of h (run_items empty (sent n)).guards ≡ cond (eqb (shard_of (owner h)) n) (guard_of h one.guards) None

-- Keys are split over shards 0 to `last` in any way. Each shard is sent calls and sweeps that are read as its calls, lent any slices,
-- and is not refused for want of room. Then the shards are one store without limits of room; and, where the store of document 01 has
-- room for all, they are that store.
abbrev pub Shardable : (Bytes → Key) → List Call → Type 0
Shardable owner cs =
    (shard_of : Key → ℕ) (last : ℕ) (sent : ℕ → List Item) →
    ((k : Key) → shard_of k ≤ last) →
    ((n : ℕ) → n ≤ last → calls_read (sent n) ≡ calls_for (key_by owner) shard_of n cs) →
    ((n : ℕ) → n ≤ last → RoomFor empty (sent n)) →
    Sharded owner shard_of last sent (unlimited_run empty cs) (unlimited_transcript empty cs)
    × ((is : List Item) → calls_read is ≡ cs → RoomFor empty is → Sharded owner shard_of last sent (run_items empty is) (transcript_read empty is))

-- of every list of calls in which no frame hash is pushed by two senders, with the owners of the order rule
abbrev pub ShardingRule : Type 0
ShardingRule = (cs : List Call) → OneSender cs → Shardable (owner_in cs) cs

-- The owner of a hash may be told by the host, if each frame is pushed by the owner of its hash. Of a hash that is never pushed, any
-- key may be the owner.
abbrev pub ShardingRuleTold : Type 0
ShardingRuleTold =
    (owner : Bytes → Key) (cs : List Call) →
    ((f : Frame) → Memᴰ (push f) cs → owner f.hash ≡ sender f.from) →
    Shardable owner cs

-- Once a hash is pushed, the calls so far tell its owner: only of a call that comes before the push must the host know whose it will be.
abbrev pub OwnerSoFar : Type 0
OwnerSoFar = (xs ys : List Call) (h a : Bytes) → owner_in xs h ≡ sender a → owner_in (xs ++ ys) h ≡ sender a
