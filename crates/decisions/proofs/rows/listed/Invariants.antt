use Prim.Native.Nat.{◌-◌, ◌≤◌, max}
use Rattle.short_rows.proofs.Gathering.{Gathers}
use Rattle.store_rules.specs.View.{frame_of}
use Rattle.decisions.specs.Courses.{is_listed}
use Rattle.decisions.proofs.Gathering.{first_from, end_of, passing}
use Rattle.decisions.proofs.rows.listed.Given as goal

abbrev pub invariant-loop-n : goal.invariant-loop-n
invariant-loop-n l =
    let a = first_from l.fn.poll.head (frame_of l.fn.frame) in
    (l.n ≤ max a (end_of (frame_of l.fn.frame))) × Gathers l.at l.count (l.n - a) (passing (is_listed l.telling l.fn.poll.known.now) a l.n)
