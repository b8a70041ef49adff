use Rattle.store_rules.proofs.Matches.{Walks}
use Rattle.store_rules.proofs.matching.first_is.Given as goal

abbrev pub invariant-loop-m : goal.invariant-loop-m
invariant-loop-m l = Walks l.n l.hash l.fn.content.nonces.now l.fn.content.hashes.now l.m-iterator × (goal.iterator-loop-m).can_next l.m-iterator × (goal.iterator-loop-m).is_finite l.m-iterator
