-- Nonces gathered in an array of 16, one after another.
use Prim.Native.Nat.{ℕ, ◌+◌, ◌≤◌, ◌<◌}
use native.Mathlib.Omega.{arith}
use mathlib.Core.Path.{◌≡◌, refl, ◌∙◌}
use mathlib.Core.List.{List, [], ◌∷◌, ◌++◌}
use lib.ListN.{length, replicate, take, drop, set, length-set, length-append}
use lib.Seq.{take_at}
use Rattle.lists.specs.Lists.{written}
use Rattle.lists.proofs.Writing.{one_at, at-behind}
use Rattle.short_rows.specs.Reading.{Lists}
use Rattle.short_rows.specs.declared.Nonces.{Nonces}

-- after i turns `count` nonces, those of l, stand in the array, and zeros behind them
pub record Gathers (out : List ℕ) (count i : ℕ) (l : List ℕ) : Type 0 where
  pub few : count ≡ length l
  pub within : count ≤ i
  pub whole : length out ≡ 16
  pub holds : out ≡ written l (replicate 16 0)

pub gather_none : Gathers (replicate 16 0) 0 0 []
gather_none = record { few = refl; within = omega arith; whole = refl; holds = refl }

module _ (out : List ℕ) (count i : ℕ) (l : List ℕ) (g : Gathers out count i l) where
  pub gather-hit : (x place : ℕ) → place ≡ count → count < 16 → Gathers (set out place x) (count + 1) (i + 1) (l ++ (x ∷ []))
  gather-hit x place p h =
      let e : place ≡ 0 + length l = omega (arith, g.few) in
      let b : 0 + length l < length (written l (replicate 16 0)) = rw (← g.holds) (omega (arith, g.few, g.whole)) in
      record {
        few = simp length-append (omega (arith, g.few));
        within = omega (arith, g.within);
        whole = length-set out place x ∙ g.whole;
        holds = rw (e, g.holds) (one_at (written l (replicate 16 0)) (0 + length l) x b ∙ at-behind 0 l (x ∷ []) (replicate 16 0) (omega (arith, g.few)));
      }

  pub gather-miss : Gathers out count (i + 1) l
  gather-miss = record { few = g.few; within = omega (arith, g.within); whole = g.whole; holds = g.holds }

  pub gathered : Lists l (record { at = out; count = count })
  gathered = record { count = g.few; at = g.holds }

-- ---- a list of nonces as it is returned

module _ (l : List ℕ) (r : Nonces) (h : Lists l r) where
  pub lists-few : r.count ≤ length r.at
  lists-few =
      let zeros : List ℕ = replicate 16 0 in
      rw h.at (omega (arith, h.count, length-append l (drop (length l) zeros)))

  pub lists-front : take r.count r.at ≡ l
  lists-front = rw (h.at, h.count) (take_at l (drop (length l) (replicate 16 0)) (length l) refl)
