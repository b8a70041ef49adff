use native.Mathlib.Omega.{arith}
use lib.ListN.{length-take}
use Rattle.trace_parts.proofs.Lists.{put-turn, put-done}
use Rattle.trace_parts.proofs.put_numbers.Goals as goal

pub loop-i-preserved : goal.loop-i-preserved
loop-i-preserved c =
    let few = length-take c.min-n.result c.args.list.now in
    put-turn c.args.at c.args.bytes.now c.loop-i.number-items c.loop-i.i c.loop-i.invariant _ (omega arith) (omega (arith, c.count_at-count.ensures.0, c.min-n.ensures, few)) c.number.ensures

pub returns : goal.returns
returns c =
    let few = length-take c.min-n.result c.args.list.now in
    put-done c.args.at c.args.bytes.now c.loop-i.number-items c.loop-i.i c.loop-i.invariant c.args.list.now c.min-n.result (omega (arith, c.count_at-count.ensures.0, c.min-n.ensures)) (omega arith) (omega (arith, c.min-n.ensures, few))
