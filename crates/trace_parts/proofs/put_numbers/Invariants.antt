use mathlib.Core.Path.{◌≡◌}
use lib.ListN.{take}
use Rattle.trace_parts.specs.Parts.{numbers_at}
use Rattle.trace_parts.proofs.put_numbers.Given as goal

abbrev pub invariant-loop-i : goal.invariant-loop-i
invariant-loop-i l = take l.i l.number-items ≡ take l.i (numbers_at l.at l.bytes)
