use Prim.Native.Nat.{◌+◌, ◌-◌, ◌*◌}
use native.Mathlib.Omega.{arith}
use mathlib.Core.Path.{◌≡◌, sym, ◌∙◌}
use Rattle.guards.proofs.Turns.{search_start, found, passed_over, none_left}
use Rattle.guards.proofs.find_guard.Goals as goal

pub loop-k-init : goal.loop-k-init
loop-k-init c = search_start _ _ _

pub returns-then-is_live : goal.returns-then-is_live
returns-then-is_live c =
    let width : 33 * c.loop-k.k + 33 - 33 * c.loop-k.k ≡ 33 = omega arith in
    found _ _ _ _ c.loop-k.invariant (omega arith) (sym (rw width at c.is_live.ensures) ∙ c.if-is_live.true)

pub loop-k-preserved : goal.loop-k-preserved
loop-k-preserved c =
    let width : 33 * c.loop-k.k + 33 - 33 * c.loop-k.k ≡ 33 = omega arith in
    passed_over _ _ _ _ c.loop-k.invariant (omega arith) (sym (rw width at c.is_live.ensures) ∙ c.if-is_live.false)

pub returns : goal.returns
returns c = none_left _ _ _ _ c.loop-k.invariant (omega arith)
