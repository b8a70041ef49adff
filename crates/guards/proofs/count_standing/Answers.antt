use native.Mathlib.Nat.{zero-add}
use native.Mathlib.Omega.{arith}
use borrow.Author.Tests.{eq-eqb, ne_eqb}
use Rattle.store_rules.specs.View.{labels_of}
use Rattle.guards.proofs.Labels.{labels_length, label-seen}
use Rattle.guards.proofs.Turns.{one-counted, none-counted, all-counted}
use Rattle.guards.proofs.count_standing.Goals as goal
use Rattle.guards.proofs.count_standing.Goals.{then-labels-k-eq1, else-labels-k-eq1}

pub loop-k-init : goal.loop-k-init
loop-k-init c = record { within = omega arith; few = omega arith; so_far = zero-add _ }

pub loop-k-preserved : goal.loop-k-preserved
loop-k-preserved c =
    let l = c.loop-k in
    let b = c.args.labels.now in
    elim c.if-labels-k-eq1.branch [
      | then-labels-k-eq1 w ↦ rw w.n-is (one-counted c.args.len (labels_of b) l.k l.n c.loop-k-test.true (omega (arith, labels_length b)) l.invariant (rw (label-seen b l.k (omega arith)) (eq-eqb _ 1 w.if-labels-k-eq1.true)))
      | else-labels-k-eq1 w ↦ rw w.n-is (none-counted c.args.len (labels_of b) l.k l.n c.loop-k-test.true (omega (arith, labels_length b)) l.invariant (rw (label-seen b l.k (omega arith)) (ne_eqb _ 1 w.if-labels-k-eq1.false)))
    ]

pub returns : goal.returns
returns c = all-counted _ _ _ _ (omega arith) c.loop-k.invariant
