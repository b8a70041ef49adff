use mathlib.Core.Path.{◌≡◌}
use mathlib.Core.Bool.{not}
use Rattle.lists.specs.Lists.{is_empty, is_in}
use Rattle.store_rules.specs.Poll.{unknown}
use Rattle.store_rules.specs.View.{frame_of}
use Rattle.decisions.proofs.Gathering.{end_of, left}
use Rattle.decisions.proofs.poll.any_unknown.Given as goal

abbrev pub invariant-loop-n : goal.invariant-loop-n
invariant-loop-n l = is_empty (unknown l.fn.poll.head l.fn.poll.known.now (frame_of l.fn.frame)) ≡ is_empty (left (λ k. not (is_in k l.fn.poll.known.now)) l.n (end_of (frame_of l.fn.frame)))
