use Prim.Native.Nat.{◌<◌}
use native.Mathlib.Omega.{arith}
use mathlib.Core.Path.{refl, sym}
use lib.ListN.{length}
use Rattle.lists.proofs.Turns.{eq-lengths}
use Rattle.lists.proofs.Same.{differs, agrees, done}
use Rattle.lists.proofs.same_bytes.Goals as goal
use Rattle.lists.proofs.same_bytes.Goals.{then-a-i, else-a-i}

pub returns-then-a-b : goal.returns-then-a-b
returns-then-a-b c = sym (eq-lengths _ _ c.if-a-b.true)

pub loop-i-init : goal.loop-i-init
loop-i-init c = (c.if-a-b.false, refl)

pub loop-i-preserved : goal.loop-i-preserved
loop-i-preserved c =
    let l = c.loop-i in
    let a = c.args.a.now in
    let b = c.args.b.now in
    let h : l.i < length a = omega (arith, c.loop-i-test.true) in
    let k : l.i < length b = omega (arith, l.invariant.0, c.loop-i-test.true) in (
      l.invariant.0,
      elim c.if-a-i.branch [
        | then-a-i w ↦ rw w.same-is (differs a b l.i l.same h k l.invariant.1 w.if-a-i.true)
        | else-a-i w ↦ rw w.same-is (agrees a b l.i l.same h k l.invariant.1 w.if-a-i.false)
      ],
    )

pub returns : goal.returns
returns c =
    let l = c.loop-i in
    let a = c.args.a.now in
    let b = c.args.b.now in
    sym (done a b l.i l.same (omega (arith, c.loop-i-test.false)) (omega (arith, l.invariant.0, c.loop-i-test.false)) l.invariant.1)
