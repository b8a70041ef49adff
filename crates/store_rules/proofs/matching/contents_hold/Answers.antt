use Rattle.std.proofs.Common.{sym, ◌∙◌, arith}
use Rattle.store_rules.proofs.Matches.{not-held, next-held, all-held}
use Rattle.store_rules.proofs.matching.contents_hold.Goals as goal

pub returns-then-not-first_is : goal.returns-then-not-first_is
returns-then-not-first_is c =
    not-held _ _ _ c.loop-n.n-iterator c.next.new.self c.loop-n.invariant.0 c.in-Some.n c.in-Some.hash c.in-Some.ensures.steps (sym c.first_is.ensures ∙ c.if-not-first_is.true)

pub loop-n-preserved : goal.loop-n-preserved
loop-n-preserved c =
    let on = next-held _ _ _ c.loop-n.n-iterator c.next.new.self c.loop-n.invariant.0 c.in-Some.n c.in-Some.hash c.in-Some.ensures.steps (sym c.first_is.ensures ∙ c.if-not-first_is.false) in
    (on, (tt, omega (arith, on.size)), tt)

pub returns : goal.returns
returns c = all-held _ _ _ c.loop-n.n-iterator c.next.new.self c.loop-n.invariant.0 c.in-None.ensures.steps
