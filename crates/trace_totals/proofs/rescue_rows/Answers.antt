use native.Mathlib.Omega.{arith}
use Rattle.trace_totals.proofs.Rows.{row-place, none_yet, every_one, one_more, no_more}
use Rattle.trace_totals.proofs.rescue_rows.Goals as goal
use Rattle.trace_totals.proofs.rescue_rows.Goals.{then-rows-width-eq1, else-rows-width-eq1}

pub loop-i-init : goal.loop-i-init
loop-i-init c = none_yet c.args.rows.now c.args.width c.args.n

pub overflow_mul-width : goal.overflow_mul-width
overflow_mul-width c = omega (arith, row-place c.args.width c.args.n c.loop-i.i c.loop-i-test.true, c.requires.1)

pub overflow_add-width : goal.overflow_add-width
overflow_add-width c = omega (arith, row-place c.args.width c.args.n c.loop-i.i c.loop-i-test.true, c.requires.1, c.requires.0)

pub offset_bounds-rows-width : goal.offset_bounds-rows-width
offset_bounds-rows-width c = omega (arith, row-place c.args.width c.args.n c.loop-i.i c.loop-i-test.true, c.requires.1, c.requires.0)

pub bounds-rows-width : goal.bounds-rows-width
bounds-rows-width c = omega (arith, row-place c.args.width c.args.n c.loop-i.i c.loop-i-test.true, c.requires.1, c.requires.0)

pub overflow_add-count : goal.overflow_add-count
overflow_add-count c = omega (arith, c.loop-i.invariant.few, c.loop-i.invariant.within)

pub loop-i-preserved : goal.loop-i-preserved
loop-i-preserved c = let a = c.args in
    let l = c.loop-i in
    elim c.if-rows-width-eq1.branch [
      | then-rows-width-eq1 x ↦ one_more a.rows.now a.width a.n l.i c.requires.0 c.loop-i-test.true l.count c.if-rows-width-eq1.count l.invariant x.if-rows-width-eq1.true x.count-is
      | else-rows-width-eq1 x ↦ no_more a.rows.now a.width a.n l.i c.requires.0 c.loop-i-test.true l.count c.if-rows-width-eq1.count l.invariant x.if-rows-width-eq1.false x.count-is
    ]

pub returns : goal.returns
returns c = every_one c.args.rows.now c.args.width c.args.n c.loop-i.count c.loop-i.i c.loop-i.invariant c.loop-i-test.false
