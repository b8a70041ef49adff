-- What the guard call makes of the held part and of the bodies lent to it.
use Prim.Native.Nat.{ℕ, ◌≤◌, ◌<◌}
use mathlib.Core.Path.{◌≡◌, refl}
use mathlib.Core.Bool.{true, false}
use Rattle.std.specs.Prelude.{Ok, Err}
use lib.ListN.{length}
use borrow.Author.Tests.{lt-ltb, le-ltb}
use Rattle.lists.specs.Bytes.{Bytes}
use Rattle.refusal.specs.declared.Refusal.{Refusal}
use Rattle.refusal.specs.declared.Refusal.TheVariants.{ManyPredecessors, BadGuardContent}
use Rattle.store_rules.specs.Frames.{Guard}
use Rattle.store_rules.specs.Store.{guard, bad_contents, effect, input_refusal, room_refusal, refusal, when, unless, step}
use Rattle.store_rules.specs.Answers.{said, numbers_of, bytes_of}
use Rattle.store_rules.specs.declared.Held.{Held}
use Rattle.guards.specs.Recording.{Records}
use Rattle.guards.specs.declared.bodies.GuardBodies.{GuardBodies}
use Rattle.gap_quarantine.specs.Promises.{Writes}
use Rattle.answers.specs.declared.Answer.TheVariants.{Recorded}

module _ (h : Held) (bodies : GuardBodies) (g : Guard) where
  pub many-preds : 16 < length g.predecessors → Writes h bodies (guard g) (record { answer = Err ManyPredecessors; store = h }) bodies
  unfolding step refusal input_refusal when unless said numbers_of bytes_of
  many-preds m = let t = lt-ltb 16 (length g.predecessors) m in record { store = rw t; answer = rw t; numbers_after = rw t; bytes_after = rw t; kept = λ x e. refl }

  module _ (few : length g.predecessors ≤ 16) where
    pub bad-content : bad_contents g.contents ≡ true → Writes h bodies (guard g) (record { answer = Err BadGuardContent; store = h }) bodies
    unfolding step refusal input_refusal when unless said numbers_of bytes_of
    bad-content b =
        let t = le-ltb 16 (length g.predecessors) few in
        record { store = rw (t, b); answer = rw (t, b); numbers_after = rw (t, b); bytes_after = rw (t, b); kept = λ x e. refl }

    module _ (good : bad_contents g.contents ≡ false) (labels' : Bytes) (bodies' : GuardBodies) where
      pub no_room : (x : Refusal) → Records g h.guards h.labels bodies (Err x) labels' bodies' →
          Writes h bodies (guard g) (record { answer = Err x; store = record { entries = h.entries; len = h.len; labels = labels'; guards = h.guards } }) bodies'
      unfolding step refusal input_refusal room_refusal when unless said numbers_of bytes_of
      no_room x p =
          let t = le-ltb 16 (length g.predecessors) few in
          rw (p.0, p.2, p.3)
          (record { store = rw (t, good, p.1); answer = rw (t, good, p.1); numbers_after = rw (t, good, p.1); bytes_after = rw (t, good, p.1); kept = λ x e. refl })

      pub recorded-in : (n : ℕ) → Records g h.guards h.labels bodies (Ok n) labels' bodies' →
          Writes h bodies (guard g) (record { answer = Ok Recorded; store = record { entries = h.entries; len = h.len; labels = labels'; guards = n } }) bodies'
      unfolding step refusal input_refusal room_refusal when unless effect said numbers_of bytes_of
      recorded-in n p =
          let t = le-ltb 16 (length g.predecessors) few in
          record { store = rw (t, good, p.0, p.1); answer = rw (t, good, p.0); numbers_after = rw (t, good, p.0); bytes_after = rw (t, good, p.0); kept = λ x e. cc }
