use Prim.Native.Nat.{◌+◌, ◌-◌, ◌≤◌, max}
use native.Mathlib.Omega.{arith}
use mathlib.Core.Path.{◌≡◌, refl, sym, ◌∙◌}
use Rattle.lists.specs.Lists.{keep, numbers_from}
use Rattle.short_rows.proofs.Gathering.{gather_none, gather-hit, gather-miss, gathered}
use Rattle.store_rules.specs.View.{frame_of}
use Rattle.decisions.specs.Courses.{is_listed}
use Rattle.decisions.proofs.Gathering.{first_from, end_of, preds-are, pass-hit, pass-miss, pass-all}
use Rattle.decisions.proofs.RowNumbers.{nonces-are}
use Rattle.decisions.proofs.rows.listed.Goals as goal
use Rattle.decisions.proofs.rows.listed.Goals.{then-is_listed, else-is_listed}

pub loop-n-init : goal.loop-n-init
unfolding keep numbers_from
loop-n-init c =
    let m = max c.args.frame.expected c.args.poll.now.head in
    let z : m - m ≡ 0 = omega arith in
    (omega (arith, c.max-n.ensures), rw (c.max-n.ensures, z) gather_none)

pub offset_bounds-at-count : goal.offset_bounds-at-count
offset_bounds-at-count c = omega (arith, c.loop-n.invariant.1.within)

pub bounds-at-count : goal.bounds-at-count
bounds-at-count c = omega (arith, c.loop-n.invariant.1.within)

pub overflow_add-count : goal.overflow_add-count
overflow_add-count c = omega (arith, c.loop-n.invariant.1.within)

pub loop-n-preserved : goal.loop-n-preserved
loop-n-preserved c =
    let l = c.loop-n in
    let p = is_listed c.args.telling c.args.poll.now.known.now in
    let a = max c.args.frame.expected c.args.poll.now.head in
    let h : a ≤ l.n = omega (arith, c.max-n.ensures) in
    let i : l.n + 1 - a ≡ l.n - a + 1 = omega arith in
    let on : l.n + 1 ≤ max a (end_of (frame_of c.args.frame)) = omega (arith, c.gap_end-n-end.ensures) in (
      on,
      elim c.if-is_listed.branch [
        | then-is_listed w ↦ rw (w.at-is, w.count-is, pass-hit p a l.n h (sym c.is_listed.ensures ∙ w.if-is_listed.true), i) (gather-hit _ _ _ _ l.invariant.1 _ _ refl (omega (arith, l.invariant.1.within, c.gap_end-n-end.ensures)))
        | else-is_listed w ↦ rw (w.at-is, w.count-is, pass-miss p a l.n h (sym c.is_listed.ensures ∙ w.if-is_listed.false), i) (gather-miss _ _ _ _ l.invariant.1)
      ],
    )

pub returns : goal.returns
returns c =
    let s = c.args in
    let l = c.loop-n in
    let f = frame_of s.frame in
    rw (← nonces-are s.telling s.poll.now.head s.poll.now.known.now f, preds-are s.poll.now.head f)
    (rw (← pass-all (is_listed s.telling s.poll.now.known.now) (first_from s.poll.now.head f) (end_of f) l.n (omega (arith, c.max-n.ensures)) l.invariant.0 (omega (arith, c.gap_end-n-end.ensures))) (gathered _ _ _ _ l.invariant.1))
