-- A call on the whole store is the call on its held part, with the store's own bodies.
use Prim.Native.Nat.{ℕ}
use mathlib.Core.List.{List}
use mathlib.Core.Path.{◌≡◌}
use Rattle.store_rules.specs.Store.{Store, RowForm, Answer}
use Rattle.store_rules.specs.Answers.{Said}
use Rattle.store_rules.specs.View.{held_view}
use Rattle.store_rules.specs.declared.Held.{Held}
use Rattle.guards.specs.Recording.{bodies_in}
use Rattle.answers.specs.Promises.{heard, Gives}
use Rattle.answers.specs.declared.Outcome.{Outcome}
use Rattle.gap_quarantine.specs.Promises.{view_of, joined}
use Rattle.gap_quarantine.specs.declared.Quarantine.{Quarantine}

module _ {form : RowForm} {q : Quarantine} {done : Store × Answer} {numbers bytes numbers' bytes' : List ℕ} where
  pub whole-gives : {a : Said} {h : Held} → Gives (held_view (bodies_in q.bodies)) form q.held done numbers bytes a h numbers' bytes' →
      Gives view_of form q done numbers bytes a (joined h q.bodies) numbers' bytes'
  whole-gives s = record {
    store = s.store;
    answer = s.answer;
    numbers_after = s.numbers_after;
    bytes_after = s.bytes_after;
    kept = λ n p i. joined (s.kept n p i) q.bodies;
  }

  pub whole : {o : Outcome Held} {r : Outcome Quarantine} →
      Gives (held_view (bodies_in q.bodies)) form q.held done numbers bytes (heard o.answer) o.store numbers' bytes' →
      r ≡ record { answer = o.answer; store = joined o.store q.bodies } →
      Gives view_of form q done numbers bytes (heard r.answer) r.store numbers' bytes'
  whole s e = rw e (whole-gives s)
