-- One turn of a comparison that goes on to the end.
use Prim.Native.Nat.{ℕ, ◌+◌, ◌≤◌, ◌<◌}
use mathlib.Core.Path.{◌≡◌, refl, ◌∙◌}
use mathlib.Core.Bool.{Bool, true, false, ◌&&◌}
use lib.ListN.{length, drop, get_or}
use borrow.Author.Tests.{eq-eqb, ne_eqb}
use Rattle.lists.specs.Bytes.{Bytes, eq_bytes}
use Rattle.lists.proofs.Turns.{eq-turn, eq-none}

pub and-false : (s : Bool) → (s && false) ≡ false
and-false true = refl
and-false false = refl

pub and-true : (s : Bool) → (s && true) ≡ s
and-true true = refl
and-true false = refl

module _ (a b : Bytes) (i : ℕ) (s : Bool) (h : i < length a) (k : i < length b) (so : eq_bytes a b ≡ (s && eq_bytes (drop i a) (drop i b))) where
  pub differs : (get_or a i 0 ≡ get_or b i 0 → ⊥) → eq_bytes a b ≡ (false && eq_bytes (drop (i + 1) a) (drop (i + 1) b))
  differs n = so ∙ rw (eq-turn a b i h k, ne_eqb (get_or a i 0) (get_or b i 0) n) (and-false s)

  pub agrees : get_or a i 0 ≡ get_or b i 0 → eq_bytes a b ≡ (s && eq_bytes (drop (i + 1) a) (drop (i + 1) b))
  agrees e = so ∙ rw (eq-turn a b i h k, eq-eqb (get_or a i 0) (get_or b i 0) e)

pub done : (a b : Bytes) (i : ℕ) (s : Bool) → length a ≤ i → length b ≤ i → eq_bytes a b ≡ (s && eq_bytes (drop i a) (drop i b)) → eq_bytes a b ≡ s
done a b i s h k so = so ∙ rw (eq-none a b i h k) (and-true s)
