use Rattle.trace_totals.proofs.Rows.{Counted}
use Rattle.trace_totals.proofs.rescue_rows.Given as goal

abbrev pub invariant-loop-i : goal.invariant-loop-i
invariant-loop-i l = Counted l.rows l.width l.n l.count l.i
