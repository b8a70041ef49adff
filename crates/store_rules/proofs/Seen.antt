-- What the views of the code's values come to.
use mathlib.Core.Path.{◌≡◌, refl, sym, ap, ◌∙◌}
use native.Mathlib.Omega.{arith}
use mathlib.Core.Bool.{Bool, false, ◌&&◌}
use mathlib.Core.List.{List, [], ◌∷◌, append_assoc, map}
use Prim.Native.Nat.{ℕ, ◌≤◌}
use lib.Dec.{eqb}
use lib.Pointwise.{pointwise}
use lib.ListN.{length, take, length-take, length-map}
use lib.Seq.{paste, take-length, drop-drop}
use Rattle.lists.specs.Bytes.{Bytes, eq_bytes}
use Rattle.lists.specs.Lists.{written_at}
use Rattle.store_rules.specs.Frames.{is_tracked}
use Rattle.store_rules.specs.Lookup.{enters}
use Rattle.store_rules.specs.View.{consumed_of, entry_of, block_of}
use Rattle.store_rules.specs.declared.Entry as coded
use Rattle.store_rules.specs.declared.FrameState.TheVariants.{Tracked, Tentative}
use Rattle.store_rules.specs.declared.NonceConsumed.{NonceConsumed}
use Rattle.store_rules.specs.declared.NonceConsumed.TheVariants.{MinedAt, SlotTakenAt, SlotTakenBy}
use Rattle.lists.proofs.Same.{and-false, and-true}

pub block-seen : (c : NonceConsumed) (h t : Bytes) → (consumed_of c h t).block ≡ block_of c
block-seen (MinedAt b) h t = refl
block-seen (SlotTakenAt b) h t = refl
block-seen (SlotTakenBy b) h t = refl

pub hash-seen : (c : NonceConsumed) (h t : Bytes) → (consumed_of c h t).block_hash ≡ h
hash-seen (MinedAt b) h t = refl
hash-seen (SlotTakenAt b) h t = refl
hash-seen (SlotTakenBy b) h t = refl

-- a tentative entry never enters, a tracked one by its hash
pub enters-tentative : (h : Bytes) (e : coded.Entry) (c : NonceConsumed) → e.state ≡ Tentative c → enters h (entry_of e) ≡ false
unfolding enters is_tracked
enters-tentative h e c s = rw s (and-false (eq_bytes e.frame.hash h))

pub enters-tracked : (h : Bytes) (e : coded.Entry) → e.state ≡ Tracked → enters h (entry_of e) ≡ eq_bytes e.frame.hash h
unfolding enters is_tracked
enters-tracked h e s = rw s (and-true (eq_bytes e.frame.hash h))

-- how many are listed
pub listed-count : {X A : Type 0} (item : X → A) (l : List X) (m : List A) (n : ℕ) → length l ≡ 64 → n ≤ 64 → map item (take n l) ≡ m → length m ≡ n
listed-count item l m n z b e = sym (ap length e) ∙ simp (length-map, length-take) (omega arith)

-- bytes copied to a place
pub pasted : (out : Bytes) (at : ℕ) (l : Bytes) → paste out at l (length l) ≡ written_at at l out
pasted out at l = rw (take-length l, drop-drop (length l) at out, append_assoc)

-- `==` on numbers, which are compared one by one
pub equal-is : (xs ys : List ℕ) → eq_bytes xs ys ≡ pointwise eqb xs ys
unfolding eq_bytes
equal-is [] [] = refl
equal-is [] (y ∷ ys) = refl
equal-is (x ∷ xs) [] = refl
equal-is (x ∷ xs) (y ∷ ys) = ap (λ (b : Bool). eqb x y && b) (equal-is xs ys)
