use Rattle.short_rows.proofs.Reading.{Reads}
use Rattle.short_rows.proofs.nonces_of.Given as goal

abbrev pub invariant-loop-place : goal.invariant-loop-place
invariant-loop-place l = Reads l.expected l.mark l.at l.count l.rest l.place
