use Prim.Native.Nat.{◌-◌}
use mathlib.Core.Path.{◌≡◌}
use lib.ListN.{length}
use Rattle.gap_quarantine.specs.Promises.{view_of}
use Rattle.trace_run.proofs.Running.{Going}
use Rattle.trace_run.proofs.run_calls.Given as goal

abbrev pub invariant-loop-at : goal.invariant-loop-at
invariant-loop-at l =
    Going l.trace l.initial.lines (view_of l.q) l.counts l.lines l.count l.at × (length l.numbers ≡ 1216) × (length l.hashes ≡ 4096)

abbrev pub decreases-loop-at : goal.decreases-loop-at
decreases-loop-at l = length l.trace - l.at
