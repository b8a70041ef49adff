use lib.ListN.{take, drop}
use Rattle.store_rules.specs.Store.{evict_sender, long}
use Rattle.trace_calls.proofs.Making.{not_made, made-numbers}
use Rattle.trace_calls.proofs.Readers.{evict-read, evict-not}
use Rattle.trace_calls.proofs.calls.evict.Goals as goal

pub returns-then-bytes-lt22 : goal.returns-then-bytes-lt22
returns-then-bytes-lt22 c = λ hashes. not_made long c.args.q c.args.bytes.now _ _ hashes _ (evict-not c.args.bytes.now c.if-bytes-lt22.true) c.no_call.ensures

pub returns : goal.returns
returns c =
    let bs = c.args.bytes.now in
    λ hashes. made-numbers long c.args.q bs _ (evict_sender (take 20 (drop 2 bs))) 22 c.evict_sender.result _ (evict-read bs c.if-bytes-lt22.false) c.if-bytes-lt22.false c.answered.ensures tt _ _ hashes (rw c.array_at.ensures at c.evict_sender.ensures)
