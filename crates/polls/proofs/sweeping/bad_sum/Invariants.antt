use mathlib.Core.Path.{◌≡◌}
use lib.Dec.{eqb}
use lib.ListN.{length, drop}
use Rattle.lists.specs.Lists.{sum}
use Rattle.polls.proofs.sweeping.bad_sum.Given as goal

abbrev pub invariant-loop-count : goal.invariant-loop-count
invariant-loop-count l = eqb (sum l.fn.counts) (length l.fn.nonces) ≡ eqb (sum (drop l.count-index l.fn.counts)) l.left
