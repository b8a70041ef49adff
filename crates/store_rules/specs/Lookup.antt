-- Lookup by hash: the first entry that passes a test, and whose it is; and entering, which changes the first tracked one.
use Rattle.std.specs.Prelude.{Bool, true, false, ◌&&◌, List, [], ◌∷◌, ◌++◌, length, take, drop}
use Rattle.std.specs.Prelude.{Option, None, Some}
use Rattle.std.specs.Option.{option_map}
use Rattle.lists.specs.Bytes.{Bytes, eq_bytes}
use Rattle.lists.specs.Lists.{keep}
use Rattle.lists.specs.Search.{first_at}
use Rattle.store_rules.specs.Frames.{Consumed, tentative, Entry, is_tracked}
use Rattle.store_rules.specs.declared.lookup.Whose as coded

unfoldable pub entries_of : Bytes → List Entry → List Entry
entries_of a es = keep (λ e. eq_bytes e.frame.from a) es

-- ---- the two tests

-- any entry of this hash
abbrev pub has_hash : Bytes → Entry → Bool
has_hash h e = eq_bytes e.frame.hash h

-- a tracked entry of this hash
unfoldable pub enters : Bytes → Entry → Bool
enters h e = has_hash h e && is_tracked e.standing.state

-- ---- lookup

-- whose an entry is: its sender, and how many of that sender's held entries were pushed before it
abbrev pub Whose : Type 0
Whose = coded.Whose

pub record Found : Type 0 where
  pub entry : Entry
  pub whose : Whose

-- whose it is, if one is found
abbrev pub whose_found : Option Found → Option Whose
whose_found o = option_map (λ f. f.whose) o

-- the place is how many of the sender's entries stand before it
unfoldable pub found_behind : List Entry → Entry → Found
found_behind before e = record { entry = e; whose = record { sender = e.frame.from; place = length (entries_of e.frame.from before) } }

-- the first entry of the rest, behind those before it
unfoldable pub first_of : List Entry → List Entry → Option Found
first_of before [] = None
first_of before (e ∷ rest) = Some (found_behind before e)

-- the first entry that passes a test, in walk order
unfoldable pub lookup : (Entry → Bool) → List Entry → Option Found
lookup p es = first_of (take (first_at p es) es) (drop (first_at p es) es)

unfoldable pub is_found : Option Found → Bool
is_found None = false
is_found (Some f) = true

-- ---- entering

-- the held head survives
unfoldable pub enter_with : Consumed → Entry → Entry
enter_with c e = record { frame = e.frame; standing = record { state = tentative c; held = e.standing.held } }

-- the first entry of the rest is entered
unfoldable pub enter_head : Consumed → List Entry → List Entry
enter_head c [] = []
enter_head c (e ∷ rest) = enter_with c e ∷ rest

-- the first tracked entry of this hash becomes tentative, if there is one
unfoldable pub enter_first : Bytes → Consumed → List Entry → List Entry
enter_first h c es = take (first_at (enters h) es) es ++ enter_head c (drop (first_at (enters h) es) es)
