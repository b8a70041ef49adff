use Prim.Native.Nat.{◌+◌, ◌*◌, ◌≤◌}
use mathlib.Core.Path.{◌≡◌}
use Rattle.polls.proofs.ListedSenders.{listed_left}
use Rattle.polls.proofs.sweeping.listed_entries.Given as goal

abbrev pub invariant-loop-e : goal.invariant-loop-e
invariant-loop-e l = (l.count ≤ 64 * l.e-index) × (l.count + listed_left l.senders l.frames l.e-index ≡ listed_left l.senders l.frames 0)
