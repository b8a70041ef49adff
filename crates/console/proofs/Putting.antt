-- What waits after a write failed, and after texts were put one after another, in a loop and in turn.
use Prim.Native.Nat.{ℕ, ◌+◌, ◌≤◌, ◌<◌}
use native.Mathlib.Numerals.{add-one}
use mathlib.Core.Path.{◌≡◌, refl, ap, ◌∙◌}
use mathlib.Core.Bool.{Bool}
use mathlib.Core.List.{List, [], ◌∷◌, ◌++◌}
use lib.ListN.{length, drop, get_or, drop_of_length-le}
use lib.Seq.{drop-cons}
use Rattle.lists.specs.Bytes.{Bytes}
use Rattle.wire.specs.HashText.{hex_pair}
use Rattle.console.specs.declared.output.Output.{Output}
use Rattle.console.specs.Waiting.{waits, behind, all_behind, counted, pairs}

-- whether a write has failed does not change what waits
pub kept-waits : (o : Output) (failed : Bool) → waits (record o { failed = failed }) ≡ waits o
unfolding waits
kept-waits o failed = refl

-- a byte's two digits are put, and those of the others are left
pub hex-turn : (bs w next p : Bytes) (i : ℕ) → i < length bs → p ≡ hex_pair (get_or bs i 0)
    → next ≡ behind w p → all_behind next (pairs (drop (i + 1) bs)) ≡ all_behind w (pairs (drop i bs))
unfolding all_behind pairs
hex-turn bs w next p i h e f = rw (drop-cons bs i 0 h, f, e, add-one i)

pub hex-done : (bs w : Bytes) (i : ℕ) → length bs ≤ i → all_behind w (pairs (drop i bs)) ≡ w
unfolding all_behind pairs
hex-done bs w i h = rw (drop_of_length-le bs h)

-- texts, and then more texts
pub and_then : (a b : List Bytes) (w mid last : Bytes) → mid ≡ all_behind w a → last ≡ all_behind mid b → last ≡ all_behind w (a ++ b)
unfolding all_behind
and_then [] b w mid last e f = f ∙ ap (λ (m : Bytes). all_behind m b) e
and_then (t ∷ a) b w mid last e f = and_then a b (behind w t) mid last e f

-- one text more
pub and-text : (a : List Bytes) (t w mid last : Bytes) → mid ≡ all_behind w a → last ≡ behind mid t → last ≡ all_behind w (a ++ (t ∷ []))
unfolding all_behind
and-text a t w mid last e f = and_then a (t ∷ []) w mid last e f

-- a word and a number that is known by another name, alone and after other texts
pub a-count : (word : Bytes) (n v : ℕ) (w last : Bytes) → n ≡ v → last ≡ all_behind w (counted word n) → last ≡ all_behind w (counted word v)
a-count word n v w last p f = f ∙ ap (λ (k : ℕ). all_behind w (counted word k)) p

pub and-count : (a : List Bytes) (word : Bytes) (n v : ℕ) (w mid last : Bytes) → mid ≡ all_behind w a → n ≡ v → last ≡ all_behind mid (counted word n)
    → last ≡ all_behind w (a ++ counted word v)
and-count a word n v w mid last e p f = and_then a (counted word v) w mid last e (a-count word n v mid last p f)
