use mathlib.Core.Path.{◌≡◌}
use mathlib.Core.Bool.{◌&&◌}
use lib.ListN.{length, drop}
use Rattle.lists.specs.Bytes.{eq_bytes}
use Rattle.lists.proofs.same_bytes.Given as goal

abbrev pub invariant-loop-i : goal.invariant-loop-i
invariant-loop-i l = (length l.a ≡ length l.b) × (eq_bytes l.a l.b ≡ (l.same && eq_bytes (drop l.i l.a) (drop l.i l.b)))
