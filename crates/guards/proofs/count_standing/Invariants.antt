use Rattle.store_rules.specs.View.{labels_of}
use Rattle.guards.proofs.Turns.{Counting}
use Rattle.guards.proofs.count_standing.Given as goal

abbrev pub invariant-loop-k : goal.invariant-loop-k
invariant-loop-k l = Counting l.len (labels_of l.labels) l.k l.n
