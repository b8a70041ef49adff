use Prim.Native.Nat.{◌*◌}
use native.Mathlib.Omega.{arith}
use Rattle.guards.specs.Recording.{bodies_in}
use Rattle.guards.proofs.Parts.{part-moved}
use Rattle.guards.proofs.Turns.{move_start, guard-gone, guard-moved, all_moved}
use Rattle.guards.proofs.move_up.Goals as goal
use Rattle.guards.proofs.move_up.Goals.{then-labels-from-eq1, else-labels-from-eq1}

pub loop-k-init : goal.loop-k-init
loop-k-init c = move_start _ _ _

pub loop-k-preserved : goal.loop-k-preserved
loop-k-preserved c =
    let l = c.loop-k in
    let a = c.args in
    elim c.if-labels-from-eq1.branch [
      | then-labels-from-eq1 w ↦
          rw (w.labels-is, w.bodies-is, w.w-is, w.copy_within.ensures.after, part-moved (33 * l.k) (33 * l.w) 33 l.labels (omega arith))
          (guard-moved a.len a.labels.now (bodies_in a.bodies.now) l.labels l.bodies l.w l.k c.loop-k-test.true c.requires l.invariant (omega arith) w.if-labels-from-eq1.true w.copy.new.self w.copy.ensures)
      | else-labels-from-eq1 w ↦
          rw (w.labels-is, w.bodies-is, w.w-is)
          (guard-gone a.len a.labels.now (bodies_in a.bodies.now) l.labels l.bodies l.w l.k c.loop-k-test.true c.requires l.invariant w.if-labels-from-eq1.false)
    ]

pub returns : goal.returns
returns c =
    let d = all_moved _ _ _ _ _ _ _ (omega arith) c.loop-k.invariant in
    record { count = d.0; moved = d.1 }
