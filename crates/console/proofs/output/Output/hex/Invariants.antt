use mathlib.Core.Path.{◌≡◌}
use lib.ListN.{drop}
use Rattle.console.specs.Waiting.{waits, all_behind, pairs}
use Rattle.console.proofs.output.Output.hex.Given as goal

abbrev pub invariant-loop-byte : goal.invariant-loop-byte
invariant-loop-byte l = all_behind (waits l.self) (pairs (drop l.byte-index l.bytes)) ≡ all_behind (waits l.initial.self) (pairs l.bytes)
