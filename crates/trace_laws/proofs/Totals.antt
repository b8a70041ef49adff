-- The totals of a trace are those of a list of calls from the empty store: they add up, and held is counted in the store at the end.
use mathlib.Core.Path.{ap}
use mathlib.Core.List.{map}
use lib.ListN.{length}
use Rattle.store_rules.specs.Store.{Store, empty}
use Rattle.store_rules.specs.Sweeps.{single}
use Rattle.store_rules.specs.Totals.{totals}
use Rattle.store_rules.proofs.Runs.{single-run}
use Rattle.store_laws.proofs.Totals.{totals-add-up}
use Rattle.trace_format.specs.Traces.{read_trace, lent, end_store, trace_totals}
use Rattle.trace_laws.specs.Laws.{TraceAddsUp, HeldAtTheEnd}

pub trace-adds-up : TraceAddsUp
unfolding trace_totals
trace-adds-up bs = totals-add-up (map single (map lent (read_trace bs).calls))

pub held-at-the-end : HeldAtTheEnd
unfolding trace_totals totals end_store
held-at-the-end t = ap (λ (s : Store). length s.entries) (single-run empty (map lent t.calls))
