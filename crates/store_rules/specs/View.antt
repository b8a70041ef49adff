-- The code's values as the definitions see them: what lies past a count does not show.
use Rattle.std.specs.Prelude.{ℕ, suc, ◌*◌, ◌≡◌, Bool, cond, List, [], ◌∷◌, map, eqb, length, take, drop, get_or}
use Rattle.std.specs.Prelude.{Option, Some}
use Rattle.std.specs.Option.{option_map}
use Rattle.lists.specs.Bytes.{Bytes}
use Rattle.lists.specs.Lists.{chunks}
use Rattle.store_rules.specs.Frames.{Frame, mined, taken, taken_by, Consumed, State, tracked, tentative, Entry, GuardKind, reparked, unhydratable, Guard}
use Rattle.store_rules.specs.Poll.{Content}
use Rattle.store_rules.specs.Store.{Store}
use Rattle.store_rules.specs.declared.ParkedFrame.{ParkedFrame}
use Rattle.store_rules.specs.declared.Entry as coded
use Rattle.store_rules.specs.declared.Held.{Held}
use Rattle.store_rules.specs.declared.NonceConsumed.{NonceConsumed}
use Rattle.store_rules.specs.declared.NonceConsumed.TheVariants.{MinedAt, SlotTakenAt, SlotTakenBy}
use Rattle.store_rules.specs.declared.FrameState.{FrameState}
use Rattle.store_rules.specs.declared.FrameState.TheVariants.{Tracked, Tentative}
use Rattle.store_rules.specs.declared.matching.Content as coded-content
use Rattle.store_rules.specs.declared.matching.GuardBody as coded-body
use Rattle.store_rules.specs.declared.RescueKind.{RescueKind}
use Rattle.store_rules.specs.declared.RescueKind.TheVariants.{Reparked, Unhydratable}

abbrev pub consumed_of : NonceConsumed → Bytes → Bytes → Consumed
consumed_of (MinedAt b) hash taker = record { kind = mined; block = b; block_hash = hash }
consumed_of (SlotTakenAt b) hash taker = record { kind = taken; block = b; block_hash = hash }
consumed_of (SlotTakenBy b) hash taker = record { kind = taken_by taker; block = b; block_hash = hash }

abbrev pub state_seen : FrameState → Bytes → Bytes → State
state_seen Tracked hash taker = tracked
state_seen (Tentative c) hash taker = tentative (consumed_of c hash taker)

abbrev pub frame_of : ParkedFrame → Frame
frame_of f =
    record {
      hash = f.hash;
      from = f.from;
      expected = f.expected;
      claim = f.claim;
      chain_id = f.chain_id;
      gas = f.gas;
      ticket = f.ticket;
    }

abbrev pub entry_of : coded.Entry → Entry
entry_of e =
    record {
      frame = frame_of e.frame;
      standing = record { state = state_seen e.state e.block_hash e.taker; held = e.held };
    }

abbrev pub kind_of : RescueKind → GuardKind
kind_of (Reparked b) = reparked b
kind_of Unhydratable = unhydratable

-- ---- an entry that changes

abbrev pub with_state : coded.Entry → FrameState → coded.Entry
with_state e state = record { frame = e.frame; state = state; held = e.held; block_hash = e.block_hash; taker = e.taker }

abbrev pub with_held : coded.Entry → ℕ → coded.Entry
with_held e head = record { frame = e.frame; state = e.state; held = Some head; block_hash = e.block_hash; taker = e.taker }

-- ---- guards, in two parts: a label of 33 bytes, and a body of 20 numbers and 512 bytes

-- which hash the guard in a place is of, and whether it still stands
pub record GuardLabel : Type 0 where
  pub hash : Bytes
  pub live : Bool

abbrev pub label_of : Bytes → GuardLabel
label_of b = record { hash = take 32 b; live = eqb (get_or b 32 0) 1 }

abbrev pub labels_of : Bytes → List GuardLabel
labels_of b = map label_of (chunks 33 64 b)

-- what a guard compares: all of it but its hash
pub record GuardBody : Type 0 where
  pub kind : GuardKind
  pub predecessors : List ℕ
  pub contents : Bytes

-- the numbers are kind (1 is Reparked), boundary, count of predecessors, count of hashes, and up to 16 predecessors
abbrev pub body_of : List ℕ → Bytes → GuardBody
body_of numbers bytes =
    record {
      kind = cond (eqb (get_or numbers 0 0) 1) (reparked (get_or numbers 1 0)) unhydratable;
      predecessors = take (get_or numbers 2 0) (drop 4 numbers);
      contents = take (32 * get_or numbers 3 0) bytes;
    }

-- the body in each place
abbrev pub Bodies : Type 0
Bodies = ℕ → GuardBody

-- as they lie in an array of numbers and one of bytes
abbrev pub bodies_of : List ℕ → Bytes → Bodies
bodies_of numbers contents k = body_of (take 20 (drop (20 * k) numbers)) (take 512 (drop (512 * k) contents))

abbrev pub guard_seen : Bytes → GuardBody → Guard
guard_seen h b = record { hash = h; kind = b.kind; predecessors = b.predecessors; contents = b.contents }

-- the guards whose label is live
unfoldable pub live_of : List GuardLabel → Bodies → List Guard
live_of [] bodies = []
live_of (l ∷ ls) bodies = cond l.live (guard_seen l.hash (bodies 0) ∷ live_of ls (λ k. bodies (suc k))) (live_of ls (λ k. bodies (suc k)))

-- ---- the held part

abbrev pub entries_seen : Held → List Entry
entries_seen h = map entry_of (take h.len h.entries)

abbrev pub guards_seen : Bodies → Held → List Guard
guards_seen bodies h = live_of (take h.guards (labels_of h.labels)) bodies

-- the store, whose guards have these bodies
abbrev pub held_view : Bodies → Held → Store
held_view bodies h = record { entries = entries_seen h; guards = guards_seen bodies h }

-- ---- what is given to calls

-- a hash for each nonce
abbrev pub IsPaired : coded-content.Content → Type 0
IsPaired c = length c.hashes.now ≡ 32 * length c.nonces.now

abbrev pub content_seen : coded-content.Content → Content
content_seen c = record { nonces = c.nonces.now; hashes = c.hashes.now }

-- content comes with a poll, or does not
abbrev pub content_of : Option coded-content.Content → Option Content
content_of o = option_map content_seen o

abbrev pub body_seen : coded-body.GuardBody → GuardBody
body_seen b = record { kind = kind_of b.kind; predecessors = b.predecessors.now; contents = b.contents.now }

-- the block that carries a consumption
abbrev pub block_of : NonceConsumed → ℕ
block_of (MinedAt b) = b
block_of (SlotTakenAt b) = b
block_of (SlotTakenBy b) = b
