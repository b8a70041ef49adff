-- What a lookup finds among any entries: one exactly when an entry passes the test, and the one that sender and place lead to.
use Rattle.std.specs.Prelude.{◌<◌, ◌≡◌, Bool, not, List, length, get_or}
use Rattle.std.specs.Prelude.{Some}
use Rattle.lists.specs.Bytes.{Bytes}
use Rattle.lists.specs.Lists.{keep, is_empty}
use Rattle.store_rules.specs.Frames.{Consumed, Entry}
use Rattle.store_rules.specs.Lookup.{entries_of, enters, Found, lookup, is_found, enter_with, enter_first}

-- what is found
pub record Leads (p : Entry → Bool) (es : List Entry) (f : Found) : Type 0 where
  -- of the entries that pass the test, it is the first
  pub first : (d : Entry) → get_or (keep p es) 0 d ≡ f.entry
  pub sender : f.whose.sender ≡ f.entry.frame.from
  -- the entry at its place among its sender's entries is the one found
  pub within : f.whose.place < length (entries_of f.whose.sender es)
  pub there : (d : Entry) → get_or (entries_of f.whose.sender es) f.whose.place d ≡ f.entry

pub record LooksUp (p : Entry → Bool) (es : List Entry) : Type 0 where
  -- one is found exactly when an entry passes the test
  pub exactly : is_found (lookup p es) ≡ not (is_empty (keep p es))
  pub leads : (f : Found) → lookup p es ≡ Some f → Leads p es f

-- with the test `has_hash h` this is of `state` and `expected_boundary`, with `enters h` of entering
abbrev pub EveryLookup : Type 0
EveryLookup = (p : Entry → Bool) (es : List Entry) → LooksUp p es

-- after entering, the entry at that place among the sender's is the one found, tentative now
abbrev pub EveryEntering : Type 0
EveryEntering = (h : Bytes) (c : Consumed) (es : List Entry) (f : Found) → lookup (enters h) es ≡ Some f →
    (d : Entry) → get_or (entries_of f.whose.sender (enter_first h c es)) f.whose.place d ≡ enter_with c f.entry
