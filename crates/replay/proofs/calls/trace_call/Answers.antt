use Rattle.store_rules.specs.Store.{long}
use Rattle.trace_format.specs.Reading.{read_call}
use Rattle.replay.proofs.Sizes.{size-within}
use Rattle.replay.proofs.calls.trace_call.Goals as goal

pub returns : goal.returns
returns c =
    size-within long c.args.q.now c.args.s.now _ _ _ _ (read_call c.args.s.now) c.make_call-made.result c.shown.result c.make_call-made.ensures c.shown.ensures
