use native.Mathlib.Omega.{arith}
use mathlib.Core.Path.{ap, ◌∙◌}
use mathlib.Core.Bool.{not}
use Rattle.lists.specs.Lists.{is_empty, is_in}
use Rattle.store_rules.specs.Poll.{unknown}
use Rattle.store_rules.specs.View.{frame_of}
use Rattle.decisions.proofs.Gathering.{end_of, preds-are, left-hit, left-miss, left-none}
use Rattle.decisions.proofs.poll.any_unknown.Goals as goal

pub loop-n-init : goal.loop-n-init
unfolding unknown
loop-n-init c = let a = c.args in rw (c.max-n.ensures, preds-are a.poll.now.head (frame_of a.frame))

pub returns-then-not-is_in : goal.returns-then-not-is_in
returns-then-not-is_in c =
    let a = c.args in
    let l = c.loop-n in
    rw (l.invariant, left-hit (λ k. not (is_in k a.poll.now.known.now)) l.n (end_of (frame_of a.frame)) (omega (arith, c.gap_end-n-end.ensures)) (rw (← c.if-not-is_in.ensures)))

pub loop-n-preserved : goal.loop-n-preserved
loop-n-preserved c =
    let a = c.args in
    let l = c.loop-n in
    l.invariant ∙ ap is_empty (left-miss (λ k. not (is_in k a.poll.now.known.now)) l.n (end_of (frame_of a.frame)) (omega (arith, c.gap_end-n-end.ensures)) (rw (← c.if-not-is_in.ensures)))

pub returns : goal.returns
returns c =
    let a = c.args in
    let l = c.loop-n in
    rw (l.invariant, left-none (λ k. not (is_in k a.poll.now.known.now)) l.n (end_of (frame_of a.frame)) (omega (arith, c.gap_end-n-end.ensures)))
