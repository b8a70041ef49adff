-- A list that grows at the front of a slice, so many numbers for each element.
use Prim.Native.Nat.{ℕ, ◌+◌, ◌*◌, ◌≤◌}
use native.Mathlib.Nat.{mul-suc}
use native.Mathlib.Numerals.{add-one}
use native.Mathlib.Omega.{arith}
use mathlib.Core.Path.{◌≡◌, refl, ◌∙◌}
use mathlib.Core.List.{List, [], ◌∷◌, ◌++◌, append-nil}
use lib.ListN.{length, length-append}
use Rattle.lists.specs.Lists.{collect, written, written_at}
use Rattle.lists.proofs.Writing.{length_at, at-behind, collect-append}

module _ {A : Type 0} (f : A → List ℕ) (size : ℕ) where
  -- the slice `out₀` with what is listed so far
  pub record Listing (told : List A) (out₀ out : List ℕ) : Type 0 where
    pub sized : length (collect f told) ≡ size * length told
    pub same : length out ≡ length out₀
    pub holds : out ≡ written (collect f told) out₀

  pub nothing_yet : (out : List ℕ) → Listing [] out out
  unfolding collect
  nothing_yet out = record { sized = omega arith; same = refl; holds = refl }

  pub one_more : (told : List A) (x : A) (n : ℕ) (out₀ out out' : List ℕ) → Listing told out₀ out → n ≡ length told → size * n + size ≤ length out₀ → length (f x) ≡ size →
      out' ≡ written_at (size * n) (f x) out → Listing (told ++ (x ∷ [])) out₀ out'
  unfolding collect
  one_more told x n out₀ out out' g c room z e =
      let m : collect f (told ++ (x ∷ [])) ≡ collect f told ++ f x = rw (collect-append f told (x ∷ []), append-nil) in
      let long : length (told ++ (x ∷ [])) ≡ length told + 1 = length-append told (x ∷ []) in
      let next : size * (length told + 1) ≡ size * length told + size = rw add-one (mul-suc size (length told)) in
      let at : size * n ≡ 0 + length (collect f told) = rw c (omega (arith, g.sized)) in
      record {
        sized = rw (m, long, length-append (collect f told) (f x)) (omega (arith, g.sized));
        same = rw e (length_at (size * n) (f x) out (omega (arith, g.same))) ∙ g.same;
        holds = e ∙ rw (m, g.holds, at) (at-behind 0 (collect f told) (f x) out₀ (omega (arith, at)));
      }
