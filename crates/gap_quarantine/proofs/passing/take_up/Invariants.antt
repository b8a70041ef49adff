use mathlib.Core.Path.{◌≡◌}
use lib.ListN.{length}
use Rattle.lists.specs.Lists.{keep}
use Rattle.store_rules.specs.View.{entries_seen}
use Rattle.decisions.specs.Selections.{selected}
use Rattle.gap_quarantine.proofs.PassTurns.{Passing}
use Rattle.gap_quarantine.proofs.passing.take_up.Given as goal

abbrev pub invariant-loop-i : goal.invariant-loop-i
invariant-loop-i l =
    Passing l.s l.len l.initial.h.guards l.initial.h.entries l.initial.h.labels (length (keep (selected l.s) (entries_seen l.initial.h))) l.initial.numbers l.initial.bytes
    l.h.entries l.h.labels l.numbers l.bytes l.n l.w l.i × (l.h.guards ≡ l.initial.h.guards)
