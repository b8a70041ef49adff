use Rattle.store_rules.specs.Store.{long}
use Rattle.trace_calls.proofs.Making.{not_made, made-alone}
use Rattle.trace_calls.proofs.Readers.{push-read, push-not}
use Rattle.trace_calls.proofs.calls.push.Goals as goal

pub returns-then-bytes-lt94 : goal.returns-then-bytes-lt94
returns-then-bytes-lt94 c = λ slice hashes. not_made long c.args.q c.args.bytes.now _ slice hashes _ (push-not c.args.bytes.now c.if-bytes-lt94.true) c.no_call.ensures

pub returns : goal.returns
returns c =
    let bs = c.args.bytes.now in
    let h = c.if-bytes-lt94.false in
    λ slice hashes. made-alone long c.args.q bs _ _ 94 c.push.result _ (push-read bs h) h c.answered.ensures tt slice hashes
    (rw (c.array_at.ensures, c.array_at-2.ensures, c.number.ensures, c.number-2.ensures, c.number-3.ensures, c.number-4.ensures, c.number-5.ensures)
    at c.push.ensures)
