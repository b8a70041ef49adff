use Rattle.store_rules.specs.Store.{long}
use Rattle.trace_calls.proofs.Making.{not_made, made-answered}
use Rattle.trace_calls.proofs.Readers.{final-read, final-not}
use Rattle.trace_calls.proofs.calls.finalise.Goals as goal

pub returns-then-bytes-lt10 : goal.returns-then-bytes-lt10
returns-then-bytes-lt10 c = not_made long c.args.q c.args.bytes.now _ _ _ _ (final-not c.args.bytes.now c.if-bytes-lt10.true) c.no_call.ensures

pub returns : goal.returns
returns c =
    let bs = c.args.bytes.now in
    made-answered long c.args.q bs _ _ 10 c.check_finalized.result _ (final-read bs c.if-bytes-lt10.false) c.if-bytes-lt10.false c.answered.ensures _ _ _ _ (rw c.number-n.ensures at c.check_finalized.ensures)
