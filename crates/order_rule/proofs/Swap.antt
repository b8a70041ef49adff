-- Two neighbouring calls of different keys may change places within a stretch (`swap`).
use mathlib.Core.Path.{◌≡◌, refl, ap, ◌∙◌}
use mathlib.Core.Bool.{Bool, true, false, cond}
use mathlib.Core.List.{List, [], ◌∷◌, ◌++◌}
use Rattle.std.specs.Prelude.{Option, Some}
use Rattle.lists.proofs.ByteOrder.{clash}
use Rattle.lists.specs.Lists.{keep}
use Rattle.lists.proofs.Keeping.{keep-cong}
use Rattle.order_rule.specs.Orders.{Key, eq_key, is_for, of_key, Keyed, nothing, also, SameCalls}
use Rattle.order_rule.proofs.Part.{eq_key-true}

module _ {A : Type 0} (key_of : A → Option Key) (x y : A) (i j : Key) (kx : key_of x ≡ Some i) (ky : key_of y ≡ Some j) (differ : eq_key i j ≡ false) where
  swap-same : (k : Key) (ls rs : List A) → of_key key_of k (ls ++ x ∷ y ∷ rs) ≡ of_key key_of k (ls ++ y ∷ x ∷ rs)
  unfolding of_key keep is_for
  swap-same k (z ∷ ls) rs = keep-cong (λ w. is_for k (key_of w)) z (ls ++ x ∷ y ∷ rs) (ls ++ y ∷ x ∷ rs) (swap-same k ls rs)
  swap-same k [] rs = rw (kx, ky) (go (eq_key i k) refl (eq_key j k) refl)
    where
      kept : List A
      kept = of_key key_of k rs

      go : (b : Bool) → eq_key i k ≡ b → (c : Bool) → eq_key j k ≡ c → cond b (x ∷ cond c (y ∷ kept) kept) (cond c (y ∷ kept) kept) ≡ cond c (y ∷ cond b (x ∷ kept) kept) (cond b (x ∷ kept) kept)
      go true p true q = clash (ap (eq_key i) (eq_key-true j k q) ∙ p) differ
      go true p false q = refl
      go false p true q = refl
      go false p false q = refl

  keyed-both : {ls rs : List A} → Keyed key_of ls → Keyed key_of rs → Keyed key_of (ls ++ x ∷ y ∷ rs) × Keyed key_of (ls ++ y ∷ x ∷ rs)
  keyed-both nothing r = (also i kx (also j ky r), also j ky (also i kx r))
  keyed-both (also k e l) r = let t = keyed-both l r in (also k e t.0, also k e t.1)

  pub swap : {ls rs : List A} → Keyed key_of ls → Keyed key_of rs → SameCalls key_of (ls ++ x ∷ y ∷ rs) (ls ++ y ∷ x ∷ rs)
  swap {ls} {rs} l r = record { keyed = keyed-both l r; same = λ k. swap-same k ls rs }
