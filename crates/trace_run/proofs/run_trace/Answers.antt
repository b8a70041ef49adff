use Rattle.trace_run.proofs.Running.{not-run}
use Rattle.trace_run.proofs.run_trace.Goals as goal

pub returns-then-trace-gt-MOST_BYTES : goal.returns-then-trace-gt-MOST_BYTES
returns-then-trace-gt-MOST_BYTES c = let e = c.too_long.ensures in not-run c.args.trace.now _ _ _ c.if-trace-gt-MOST_BYTES.true e.0 e.1 e.2
