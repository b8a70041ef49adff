use Rattle.std.proofs.Common.{◌∙◌, arith}
use Rattle.store_rules.proofs.Matches.{this-pair, next-pair, no-pair}
use Rattle.store_rules.proofs.matching.first_is.Goals as goal

pub returns-then-m-n : goal.returns-then-m-n
returns-then-m-n c = c.same_bytes.ensures ∙ this-pair _ _ _ _ c.loop-m.m-iterator c.next.new.self c.loop-m.invariant.0 c.in-Some.m c.in-Some.own c.in-Some.ensures.steps c.if-m-n.true

pub loop-m-preserved : goal.loop-m-preserved
loop-m-preserved c =
    let on = next-pair _ _ _ _ c.loop-m.m-iterator c.next.new.self c.loop-m.invariant.0 c.in-Some.m c.in-Some.own c.in-Some.ensures.steps c.if-m-n.false in
    (on, (tt, omega (arith, on.size)), tt)

pub returns : goal.returns
returns c = no-pair _ _ _ _ c.loop-m.m-iterator c.next.new.self c.loop-m.invariant.0 c.in-None.ensures.steps
