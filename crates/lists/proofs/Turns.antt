-- One turn of a loop that compares two lists from the front, or searches one.
use Prim.Native.Nat.{ℕ, ◌+◌, ◌≤◌, ◌<◌}
use native.Mathlib.Numerals.{add-one}
use mathlib.Core.Path.{◌≡◌, refl, ap}
use mathlib.Core.Bool.{Bool, true, false, ◌&&◌}
use lib.ListN.{length, drop, get_or, drop_of_length-le}
use lib.Seq.{drop-cons}
use lib.Dec.{eqb}
use Rattle.lists.specs.Bytes.{Bytes, eq_bytes}
use Rattle.lists.proofs.ByteOrder.{eq_bytes-true}

pub eq-turn : (a b : Bytes) (i : ℕ) → i < length a → i < length b →
    eq_bytes (drop i a) (drop i b) ≡ (eqb (get_or a i 0) (get_or b i 0) && eq_bytes (drop (i + 1) a) (drop (i + 1) b))
unfolding eq_bytes
eq-turn a b i h k = rw (add-one, drop-cons a i 0, drop-cons b i 0)

pub eq-none : (a b : Bytes) (i : ℕ) → length a ≤ i → length b ≤ i → eq_bytes (drop i a) (drop i b) ≡ true
unfolding eq_bytes
eq-none a b i p q = rw (drop_of_length-le a p, drop_of_length-le b q)

pub eq-lengths : (a b : Bytes) → (length a ≡ length b → ⊥) → eq_bytes a b ≡ false
eq-lengths a b n = go (eq_bytes a b) refl
  where
    go : (t : Bool) → eq_bytes a b ≡ t → t ≡ false
    go true e = absurd (n (ap length (eq_bytes-true a b e)))
    go false e = refl
