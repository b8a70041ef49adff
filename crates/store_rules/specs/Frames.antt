-- What the store holds: frames with their standing, and rescue guards; and what its calls list.
use Rattle.std.specs.Prelude.{ℕ, Bool, true, false, ◌&&◌, List, eqb}
use Rattle.std.specs.Prelude.{Option}
use Rattle.lists.specs.Bytes.{Bytes}

-- ---- an entry: a frame, which never changes, and its standing, which calls change

-- a parked frame; the ticket is the host's, and is never compared
pub record Frame : Type 0 where
  pub hash : Bytes
  pub from : Bytes
  pub expected : ℕ
  pub claim : ℕ
  pub chain_id : ℕ
  pub gas : ℕ
  pub ticket : ℕ

-- document 01's kind, of what consumed the nonce: the frame itself, another transaction, or another whose hash is known
pub data ConsumedKind : Type 0 where
  mined : ConsumedKind
  taken : ConsumedKind
  taken_by : Bytes → ConsumedKind

-- a consumption and the block that carries it
pub record Consumed : Type 0 where
  pub kind : ConsumedKind
  pub block : ℕ
  pub block_hash : Bytes

pub data State : Type 0 where
  tracked : State
  tentative : Consumed → State

unfoldable pub is_tracked : State → Bool
is_tracked tracked = true
is_tracked (tentative c) = false

-- the state, and the last held head of a degraded frame
pub record Standing : Type 0 where
  pub state : State
  pub held : Option ℕ

pub record Entry : Type 0 where
  pub frame : Frame
  pub standing : Standing

-- document 01's degraded frame: chain_id 0 and gas 0, both
unfoldable pub degraded : Frame → Bool
degraded f = eqb f.chain_id 0 && eqb f.gas 0

-- ---- a rescue guard

-- Reparked carries its boundary
pub data GuardKind : Type 0 where
  reparked : ℕ → GuardKind
  unhydratable : GuardKind

-- the contents are hashes of 32 bytes, one after another
pub record Guard : Type 0 where
  pub hash : Bytes
  pub kind : GuardKind
  pub predecessors : List ℕ
  pub contents : Bytes

-- ---- what calls list

pub data Decision : Type 0 where
  rescue : Decision
  nonce_consumed : Decision
  still_waiting : Decision

-- what a poll says of a frame, with the nonces that it lists
pub record Row : Type 0 where
  pub frame : Frame
  pub decision : Decision
  pub nonces : List ℕ

-- a frame that finality ends, with what consumed its nonce
pub record Dead : Type 0 where
  pub frame : Frame
  pub consumed : Consumed

-- What a call does to one entry that it visits: the entry's standing afterwards, or none if it leaves; whether its hash's
-- guard is dropped; and what is listed of it.
pub record Visit (A : Type 0) : Type 0 where
  pub stays : Option Standing
  pub drops : Bool
  pub lists : List A
