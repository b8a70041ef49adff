-- What the lookup over the code's entries returns.
use Rattle.std.specs.Prelude.{Bool, true, false, List}
use Rattle.std.specs.Prelude.{Option}
use Rattle.std.specs.Option.{option_map}
use Rattle.lists.specs.Bytes.{Bytes}
use Rattle.lists.specs.Search.{first_at}
use Rattle.store_rules.specs.Frames.{Entry}
use Rattle.store_rules.specs.Lookup.{has_hash, enters, lookup}
use Rattle.store_rules.specs.declared.lookup.Found as coded

-- a tracked entry of this hash, or any entry of it
abbrev pub sought : Bytes → Bool → Entry → Bool
sought h true e = enters h e
sought h false e = has_hash h e

-- where the first entry that passes a test stands, and whose it is
abbrev pub found_first : (Entry → Bool) → List Entry → Option coded.Found
found_first p es = option_map (λ f. record { at = first_at p es; whose = f.whose }) (lookup p es)
