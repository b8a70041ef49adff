-- What recording a guard makes of those that stand, from what its parts say.
use Prim.Native.Nat.{ℕ, ◌+◌, ◌≤◌, ◌<◌, min}
use native.Mathlib.Numerals.{add-one}
use native.Mathlib.Omega.{arith}
use mathlib.Core.Path.{◌≡◌, refl, sym, ap, ◌∙◌}
use mathlib.Core.Bool.{true}
use mathlib.Core.List.{[], ◌∷◌, ◌++◌}
use Rattle.std.specs.Prelude.{Ok, Err}
use lib.Dec.{leb}
use lib.ListN.{length, take, set}
use borrow.Author.Tests.{le-leb, lt-leb}
use Rattle.lists.specs.Bytes.{Bytes, eq_bytes}
use Rattle.lists.specs.Lists.{keep, is_empty}
use Rattle.lists.proofs.Same.{and-false}
use Rattle.refusal.specs.declared.Refusal.TheVariants.{GuardsFull}
use Rattle.store_rules.specs.Frames.{Guard}
use Rattle.store_rules.specs.Store.{put_guard, no_room_for}
use Rattle.store_rules.specs.View.{guard_seen, labels_of}
use Rattle.guards.specs.Labels.{label_at}
use Rattle.guards.specs.Moving.{live_count, BodyPut}
use Rattle.guards.specs.Recording.{standing, bodies_in, Records}
use Rattle.guards.specs.declared.bodies.GuardBodies.{GuardBodies}
use Rattle.guards.proofs.Labels.{labels_length}
use Rattle.guards.proofs.Standing.{live-length, none-ours, first-ours, live_more}
use Rattle.guards.proofs.Turns.{all-labels}

module _ (g : Guard) (guards n : ℕ) (b : Bytes) (bodies : GuardBodies) (is : n ≡ min guards 64) where
  -- the place of its label, and how many labels there are
  abbrev at : ℕ
  at = label_at g.hash (take guards (labels_of b))

  abbrev size : ℕ
  size = length (take guards (labels_of b))

  -- the guard of its hash is replaced
  pub replaced : (k : ℕ) (bodies' : GuardBodies) → (at < size) × (k ≡ at) →
      BodyPut k (record { kind = g.kind; predecessors = g.predecessors; contents = g.contents }) (bodies_in bodies) (bodies_in bodies') →
      Records g guards b bodies (Ok n) b bodies'
  unfolding no_room_for
  replaced k bodies' i put =
      let r = first-ours g (take guards (labels_of b)) (bodies_in bodies) (bodies_in bodies') i.0 (rw (← i.1) (ap (guard_seen g.hash) put.here)) (rw (← i.1) put.elsewhere) in
      (rw (r.1, and-false (leb 64 (length (standing guards b (bodies_in bodies))))), rw (all-labels guards n b is) r.0)

  counted : length (standing guards b (bodies_in bodies)) ≡ live_count (take n (labels_of b))
  counted = live-length (take guards (labels_of b)) (bodies_in bodies) ∙ ap live_count (sym (all-labels guards n b is))

  module _ (none : at < size → ⊥) where
    new : (put_guard g (standing guards b (bodies_in bodies)) ≡ standing guards b (bodies_in bodies) ++ (g ∷ []))
        × (is_empty (keep (λ x. eq_bytes x.hash g.hash) (standing guards b (bodies_in bodies))) ≡ true)
    new = none-ours g (take guards (labels_of b)) (bodies_in bodies) (omega arith)

    -- there is no room for it
    pub refused : 64 ≤ live_count (take n (labels_of b)) → Records g guards b bodies (Err GuardsFull) b bodies
    unfolding no_room_for
    refused m = (refl, rw (le-leb 64 (length (standing guards b (bodies_in bodies))) (omega (arith, counted)), new.1), refl, refl)

    -- it is put after those that stand
    pub added : (w : ℕ) (b₁ b₂ : Bytes) (bodies₁ bodies₂ : GuardBodies) → w < 64 → live_count (take n (labels_of b)) < 64 →
        standing w b₁ (bodies_in bodies₁) ≡ standing n b (bodies_in bodies) →
        labels_of b₂ ≡ set (labels_of b₁) w (record { hash = g.hash; live = true }) →
        BodyPut w (record { kind = g.kind; predecessors = g.predecessors; contents = g.contents }) (bodies_in bodies₁) (bodies_in bodies₂) →
        Records g guards b bodies (Ok (w + 1)) b₂ bodies₂
    unfolding no_room_for
    added w b₁ b₂ bodies₁ bodies₂ m few moved label put =
        let same : standing w b₁ (bodies_in bodies₁) ≡ standing guards b (bodies_in bodies) = moved ∙ rw (all-labels guards n b is) in (
          rw (lt-leb 64 (length (standing guards b (bodies_in bodies))) (omega (arith, counted))),
          rw (add-one, label)
              (live_more w (labels_of b₁) (bodies_in bodies₁) (bodies_in bodies₂) g.hash (omega (arith, labels_length b₁)) (λ j l. put.elsewhere j (λ e. omega arith))
              ∙ (λ t. same t ++ (guard_seen g.hash (put.here t) ∷ []))
              ∙ sym new.0),
        )
