use Rattle.store_bench.specs.Loads.{alone}
use Rattle.store_bench.proofs.Turns.{Turned}
use Rattle.store_bench.proofs.gap_quarantine_polls_in_turn.Given as goal

abbrev pub invariant-loop-i : goal.invariant-loop-i
invariant-loop-i l = Turned (alone l.h) l.seen l.i
