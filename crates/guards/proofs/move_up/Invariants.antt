use Rattle.store_rules.specs.View.{labels_of}
use Rattle.guards.specs.Recording.{bodies_in}
use Rattle.guards.proofs.Turns.{Moving}
use Rattle.guards.proofs.move_up.Given as goal

abbrev pub invariant-loop-k : goal.invariant-loop-k
invariant-loop-k l = Moving l.len (labels_of l.initial.labels) (bodies_in l.initial.bodies) (labels_of l.labels) (bodies_in l.bodies) l.w l.k
