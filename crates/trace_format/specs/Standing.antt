-- What holds of every reading: which bytes a call is read from, and what settles that none stands here.
use Rattle.std.specs.Prelude.{◌≤◌, ◌≡◌, ◌++◌, length}
use Rattle.lists.specs.Bytes.{Bytes}
use Rattle.store_rules.specs.Store.{Call}
use Rattle.trace_format.specs.Reading.{Read, got, cut_short, bad, read_call}

-- nothing was read
abbrev pub NotRead : {A : Type 0} → Read A → Type 0
NotRead (got x rest) = ⊥
NotRead cut_short = Unit {0}
NotRead bad = Unit {0}

-- A call is read from its own bytes, ten or more at the front: whatever stands behind these, the same call is read from them.
pub record Stands (bs : Bytes) (c : Call) (rest : Bytes) : Type 0 where
  pub front : Bytes
  pub is : bs ≡ front ++ rest
  pub long : 10 ≤ length front
  pub alone : (behind : Bytes) → read_call (front ++ behind) ≡ got c behind

abbrev pub EveryCallStands : Type 0
EveryCallStands = (bs : Bytes) (c : Call) (rest : Bytes) → read_call bs ≡ got c rest → Stands bs c rest

-- a bad mark or byte settles it: no byte behind it matters
abbrev pub BadStaysBad : Type 0
BadStaysBad = (bs behind : Bytes) → read_call bs ≡ bad → read_call (bs ++ behind) ≡ bad
