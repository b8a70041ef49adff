-- Whether a text parses, by what `parse_hash` gives.
use mathlib.Core.Path.{◌≡◌, refl, ap, ◌∙◌}
use mathlib.Core.Bool.{Bool, true, false, cond}
use Rattle.std.specs.Option.{is_some}
use Rattle.std.specs.Prelude.{Option, None, Some}
use Rattle.lists.specs.Bytes.{Bytes}
use Rattle.wire.specs.HashText.{unprefixed, from_hex, parses, parse_hash}

pub is-read : (o : Option Bytes) (text : Bytes) → o ≡ parse_hash text → is_some o ≡ parses text
unfolding parse_hash
is-read o text e = ap is_some e ∙ go (parses text)
  where
    go : (b : Bool) → is_some (cond b (Some (from_hex (unprefixed text))) None) ≡ b
    go true = refl
    go false = refl
