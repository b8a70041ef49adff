use native.Mathlib.Omega.{arith}
use mathlib.Core.Path.{refl, ◌∙◌}
use Rattle.lists.proofs.Sums.{take-off, too_much, nothing_left}
use Rattle.store_rules.specs.Sweeps.{bad_sum}
use Rattle.polls.proofs.sweeping.bad_sum.Goals as goal

pub loop-count-init : goal.loop-count-init
loop-count-init c = refl

pub returns-in_default : goal.returns-in_default
unfolding bad_sum
returns-in_default c =
    let l = c.loop-count in
    rw (l.invariant ∙ too_much c.args.counts.now l.count-index l.left (omega arith) (omega (arith, c.in_default.ensures)))

pub loop-count-preserved : goal.loop-count-preserved
loop-count-preserved c =
    let l = c.loop-count in
    rw c.in-Some.ensures.1 (l.invariant ∙ take-off c.args.counts.now l.count-index l.left (omega arith) c.in-Some.ensures.0)

pub returns : goal.returns
unfolding bad_sum
returns c = let l = c.loop-count in rw (l.invariant ∙ nothing_left c.args.counts.now l.count-index l.left (omega arith))
