use Rattle.store_rules.specs.View.{content_seen}
use Rattle.store_rules.proofs.Matches.{Holds}
use Rattle.store_rules.proofs.matching.contents_hold.Given as goal

abbrev pub invariant-loop-n : goal.invariant-loop-n
invariant-loop-n l = Holds l.fn.preds l.fn.guarded (content_seen l.content) l.n-iterator × (goal.iterator-loop-n).can_next l.n-iterator × (goal.iterator-loop-n).is_finite l.n-iterator
