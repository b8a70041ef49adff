-- What the calls that only read promise: their definitions, of the code's values.
use Rattle.std.specs.Prelude.{ℕ, ◌+◌, ◌≤◌, ◌≡◌, cond, List, [], ◌∷◌, eqb, leb, ltb, length, drop, replicate}
use Rattle.std.specs.Prelude.{Option, None, Some, Result, Ok, Err}
use Rattle.std.specs.Option.{option_map}
use Rattle.std.specs.Result.{is_ok}
use Rattle.lists.specs.Bytes.{Bytes}
use Rattle.lists.specs.Lists.{collect, written}
use Rattle.lists.specs.Search.{first_at, head_is}
use Rattle.refusal.specs.Numbers.{refusal_number}
use Rattle.refusal.specs.declared.Refusal.{Refusal}
use Rattle.store_rules.specs.Frames.{ConsumedKind, mined, taken, taken_by, State, tracked, tentative, Guard}
use Rattle.store_rules.specs.Lookup.{Whose, Found}
use Rattle.store_rules.specs.Store.{Store}
use Rattle.queries.specs.Queries.{Block, tentative_blocks, blocks_refusal, senders, senders_refusal, put_numbers, pool_known_gap, gap_refusal}
use Rattle.store_rules.specs.Answers.{taker_hash}
use Rattle.store_rules.specs.View.{entry_of, entries_seen}
use Rattle.store_rules.specs.declared.Entry as coded
use Rattle.store_rules.specs.declared.Held.{Held}
use Rattle.store_rules.specs.declared.NonceConsumed.{NonceConsumed}
use Rattle.store_rules.specs.declared.NonceConsumed.TheVariants.{MinedAt, SlotTakenAt, SlotTakenBy}
use Rattle.store_rules.specs.declared.FrameState.{FrameState}
use Rattle.store_rules.specs.declared.FrameState.TheVariants.{Tracked, Tentative}
use Rattle.queries.specs.declared.HeldState.{HeldState}
use Rattle.queries.specs.declared.Boundary.{Boundary}
use Rattle.queries.specs.declared.BlockHash.{BlockHash}

-- the held frames as a store, with any guards beside them
abbrev pub store_with : Held → List Guard → Store
store_with h gs = record { entries = entries_seen h; guards = gs }

-- ---- lookup by hash

-- what a lookup finds: the entry, and whose it is
abbrev pub Finds : Option Found → Option (coded.Entry × Whose) → Type 0
Finds o r = o ≡ option_map (λ x. record { entry = entry_of x.0; whose = x.1 }) r

abbrev pub consumed_shown : ConsumedKind → ℕ → NonceConsumed
consumed_shown mined block = MinedAt block
consumed_shown taken block = SlotTakenAt block
consumed_shown (taken_by h) block = SlotTakenBy block

-- the hash of the block that carries the state, or zeros
abbrev pub hash_shown : State → Bytes
hash_shown tracked = replicate 32 0
hash_shown (tentative c) = c.block_hash

-- the hash of the taker where it is known, or zeros
abbrev pub taker_shown : State → Bytes
taker_shown tracked = replicate 32 0
taker_shown (tentative c) = taker_hash c.kind

abbrev pub frame_state_of : State → FrameState
frame_state_of tracked = Tracked
frame_state_of (tentative c) = Tentative (consumed_shown c.kind c.block)

-- what `state` returns
abbrev pub state_shown : Option (State × Whose) → Option HeldState
state_shown o = option_map (λ x. record { whose = x.1; state = frame_state_of x.0; block_hash = hash_shown x.0; taker = taker_shown x.0 }) o

-- what `expected_boundary` returns
abbrev pub boundary_shown : Option (ℕ × Whose) → Option Boundary
boundary_shown o = option_map (λ x. record { whose = x.1; expected = x.0 }) o

-- ---- lists in ascending order

-- the place, either way
abbrev pub place : Result ℕ ℕ → ℕ
place (Ok i) = i
place (Err i) = i

-- Ok is the place of the item whose key is k, Err the first place whose key is above it
pub record Placed {A : Type 0} (key : A → ℕ) (k : ℕ) (l : List A) (r : Result ℕ ℕ) : Type 0 where
  pub at : place r ≡ first_at (λ x. leb k (key x)) l
  pub same : is_ok r ≡ head_is (λ x. eqb k (key x)) (drop (first_at (λ x. leb k (key x)) l) l)

module _ {A : Type 0} (key : A → ℕ) where
  -- an item in its place among ascending keys, or instead of the item of its key
  unfoldable pub put_in : A → List A → List A
  put_in e [] = e ∷ []
  put_in e (x ∷ xs) = cond (ltb (key e) (key x)) (e ∷ x ∷ xs) (cond (eqb (key e) (key x)) (e ∷ xs) (x ∷ put_in e xs))

abbrev pub block_seen : BlockHash → Block
block_seen b = record { block = b.block; block_hash = b.hash }

-- numbers put into a list, at most so many more
pub record PutsNumbers (xs : List ℕ) (most : ℕ) (before after : List ℕ) : Type 0 where
  pub holds : after ≡ put_numbers xs before
  pub few : length after ≤ length before + most

-- ---- what the calls that list promise

-- what a call that lists answers: how many are listed, or a refusal's number
pub data Told : Type 0 where
  listed : ℕ → Told
  turned_away : ℕ → Told

abbrev pub told : Result ℕ Refusal → Told
told (Ok n) = listed n
told (Err x) = turned_away (refusal_number x)

-- how many are listed, unless the call is refused
unfoldable pub tells : Option ℕ → ℕ → Told
tells (Some x) n = turned_away x
tells None n = listed n

-- a slice with the list at its front; as it was, if the call is refused
unfoldable pub leaves : Option ℕ → List ℕ → List ℕ → List ℕ
leaves (Some x) l slice = slice
leaves None l slice = written l slice

-- a call with this refusal lists so many, numbers and bytes; [] stands for a slice that it does not take
pub record Reads (refusal : Option ℕ) (n : ℕ) (l m numbers bytes : List ℕ) (r : Result ℕ Refusal) (numbers' bytes' : List ℕ) : Type 0 where
  pub answer : told r ≡ tells refusal n
  pub numbers_after : numbers' ≡ leaves refusal l numbers
  pub bytes_after : bytes' ≡ leaves refusal m bytes

-- a block takes a number and 32 bytes, a sender 20 bytes
abbrev pub block_numbers : Block → List ℕ
block_numbers b = b.block ∷ []

abbrev pub block_bytes : Block → Bytes
block_bytes b = b.block_hash

abbrev pub address_bytes : Bytes → Bytes
address_bytes a = a

abbrev pub BlocksRead : Store → List ℕ → Bytes → Result ℕ Refusal → List ℕ → Bytes → Type 0
BlocksRead s numbers bytes =
    Reads (blocks_refusal s (length numbers) (length bytes)) (length (tentative_blocks s)) (collect block_numbers (tentative_blocks s))
    (collect block_bytes (tentative_blocks s)) numbers bytes

abbrev pub SendersRead : Store → Bytes → Result ℕ Refusal → Bytes → Type 0
SendersRead s bytes r bytes' = Reads (senders_refusal s (length bytes)) (length (senders s)) [] (collect address_bytes (senders s)) [] bytes r [] bytes'

abbrev pub GapRead : Bytes → ℕ → ℕ → Store → List ℕ → Result ℕ Refusal → List ℕ → Type 0
GapRead a head pending s numbers r numbers' =
    Reads (gap_refusal a head pending s (length numbers)) (length (pool_known_gap a head pending s)) (pool_known_gap a head pending s) [] numbers [] r numbers' []
