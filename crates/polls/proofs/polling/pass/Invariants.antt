use Prim.Native.Nat.{min}
use mathlib.Core.Path.{◌≡◌}
use lib.ListN.{length}
use Rattle.store_rules.specs.Lookup.{entries_of}
use Rattle.store_rules.specs.View.{entries_seen}
use Rattle.decisions.specs.Courses.{form_of}
use Rattle.polls.proofs.PollTurns.{Polling}
use Rattle.polls.proofs.polling.pass.Given as goal

abbrev pub invariant-loop-j : goal.invariant-loop-j
invariant-loop-j l =
    Polling (form_of l.form) l.fn.poll (min l.fn.h.len 64) l.h.guards l.fn.h.entries l.fn.h.labels (length (entries_of l.fn.poll.sender (entries_seen l.fn.h))) l.fn.rows l.h.entries l.h.labels l.rows l.n l.w l.j
    × (l.h.guards ≡ l.fn.h.guards)
