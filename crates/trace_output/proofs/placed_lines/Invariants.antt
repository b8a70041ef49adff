use mathlib.Core.Path.{◌≡◌}
use lib.ListN.{drop}
use Rattle.trace_output.specs.Lines.{placed_lines}
use Rattle.console.specs.Waiting.{waits, all_behind}
use Rattle.trace_output.proofs.placed_lines.Given as goal

abbrev pub invariant-loop-place : goal.invariant-loop-place
invariant-loop-place l = all_behind (waits l.out) (placed_lines l.place (drop l.place l.lines)) ≡ all_behind (waits l.initial.out) (placed_lines 0 l.lines)
