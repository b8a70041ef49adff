use Prim.Native.Nat.{min}
use Rattle.store_rules.specs.View.{labels_of}
use Rattle.guards.proofs.Turns.{Dropping}
use Rattle.guards.proofs.drop_guard.Given as goal

abbrev pub invariant-loop-k : goal.invariant-loop-k
invariant-loop-k l = Dropping l.hash (min l.guards 64) (labels_of l.initial.labels) (labels_of l.labels) l.k
