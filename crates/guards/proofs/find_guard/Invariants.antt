use Rattle.guards.proofs.Turns.{Searching}
use Rattle.guards.proofs.find_guard.Given as goal

abbrev pub invariant-loop-k : goal.invariant-loop-k
invariant-loop-k l = Searching l.hash l.guards l.labels l.k
