-- Calls in turn of a closure, each of which tells of as many.
use Prim.Native.Nat.{ℕ, ◌≤◌}
use mathlib.Core.Path.{◌≡◌}
use mathlib.Core.List.{[], ◌∷◌}
use denote.Param.Members.{Mut}
use Rattle.std.specs.Fn.{Called, AlwaysReturns}
use Rattle.std.proofs.lemmas.Fn.{answers_by, always_returns_same}

-- the first of calls in turn, and those after it
pub one_called : {F X R : Type 0} (g : Mut F X R) {P : X → R → Type 0} {f : F} {a : X} {r : R} {f' : F} → AlwaysReturns g P f → Called g f a r f' → P a r × AlwaysReturns g P f'
one_called g {a = a} {r = r} {f' = f'} all c = ((all.at (a ∷ []) r f' c).0, record { at = λ xs. (all.at (a ∷ xs) r f' c).1 })

module _ {F X : Type 0} (g : Mut F X ℕ) {n : ℕ} {f : F} where
  -- where a fact of the closure gives that a call tells of n, and the call keeps the fact
  module _ (I : F → Type 0) (step : (f : F) (a : X) (r : ℕ) (f' : F) → Called g f a r f' → I f → (r ≡ n) × I f') (holds : I f) where
    pub each_round : AlwaysReturns g (λ _ r. r ≡ n) f
    each_round = answers_by g _ I step f holds

    pub few_a_round : n ≤ 64 → AlwaysReturns g (λ _ r. r ≤ 64) f
    few_a_round few = answers_by g _ I (λ f a r f' c i. (rw ((step f a r f' c i).0) few, (step f a r f' c i).1)) f holds

  -- where a call changes nothing of the closure
  module _ (step : (a : X) (r : ℕ) (f' : F) → Called g f a r f' → (r ≡ n) × (f' ≡ f)) where
    pub each_call : AlwaysReturns g (λ _ r. r ≡ n) f
    each_call = always_returns_same g _ f step

    pub few_a_call : n ≤ 64 → AlwaysReturns g (λ _ r. r ≤ 64) f
    few_a_call few = always_returns_same g _ f (λ a r f' c. (rw ((step a r f' c).0) few, (step a r f' c).1))
