use mathlib.Core.Path.{◌≡◌}
use lib.ListN.{take}
use Rattle.short_rows.specs.Mark.{mark_of}
use Rattle.short_rows.proofs.mark_of.Given as goal

abbrev pub invariant-loop-nonce : goal.invariant-loop-nonce
invariant-loop-nonce l = l.mark ≡ mark_of l.expected (take l.nonce-index l.nonces)
