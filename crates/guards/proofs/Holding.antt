-- The guard of a hash, by the place that the search for it returns.
use Prim.Native.Nat.{ℕ, ◌<◌, ◌≤◌}
use native.Mathlib.Omega.{arith}
use mathlib.Core.Path.{◌≡◌}
use Rattle.std.specs.Prelude.{Option, None, Some, is_some, SomeIff}
use lib.ListN.{length, take, length-take}
use Rattle.lists.specs.Bytes.{Bytes}
use Rattle.store_rules.specs.Store.{guard_of, is_guarded}
use Rattle.store_rules.specs.View.{Bodies, guard_seen, labels_of}
use Rattle.guards.specs.Labels.{label_at}
use Rattle.guards.specs.Recording.{standing}
use Rattle.guards.proofs.Labels.{labels_length}
use Rattle.guards.proofs.Standing.{none_found, one_found}

module _ (h : Bytes) (guards : ℕ) (b : Bytes) (bodies : Bodies) where
  -- the place of its label, and how many labels there are
  abbrev at : ℕ
  at = label_at h (take guards (labels_of b))

  abbrev size : ℕ
  size = length (take guards (labels_of b))

  pub within : (k : ℕ) → (at < size) × (k ≡ at) → k < 64
  within k i = let few : size ≤ 64 = simp length-take (omega (arith, labels_length b)) in omega arith

  pub missing : (at < size → ⊥) → guard_of h (standing guards b bodies) ≡ None
  missing n = none_found h (take guards (labels_of b)) bodies (omega arith)

  pub there : (k : ℕ) → (at < size) × (k ≡ at) → guard_of h (standing guards b bodies) ≡ Some (guard_seen h (bodies k))
  there k i = rw i.1 (one_found h (take guards (labels_of b)) bodies i.0)

  pub is-guarded : (r : Option ℕ) → SomeIff r (at < size) at → is_some r ≡ is_guarded (guard_of h (standing guards b bodies))
  unfolding is_guarded
  is-guarded None n = rw (missing n)
  is-guarded (Some k) i = rw (there k i)
