use Prim.Native.Nat.{◌+◌, ◌-◌, ◌*◌}
use native.Mathlib.Omega.{arith}
use mathlib.Core.Path.{◌≡◌, refl, sym, ◌∙◌}
use lib.ListN.{length}
use Rattle.guards.proofs.Turns.{cleared, passed, all-dropped}
use Rattle.guards.proofs.drop_guard.Goals as goal
use Rattle.guards.proofs.drop_guard.Goals.{then-same_bytes, else-same_bytes}

pub loop-k-init : goal.loop-k-init
loop-k-init c = record { within = omega arith; so_far = refl }

pub loop-k-preserved : goal.loop-k-preserved
loop-k-preserved c =
    let l = c.loop-k in
    let width : 33 * l.k + 32 - 33 * l.k ≡ 32 = omega arith in
    let whole : length l.labels ≡ 2112 = omega arith in
    elim c.if-same_bytes.branch [
      | then-same_bytes w ↦ rw w.labels-is (cleared c.args.hash _ _ l.labels l.k (omega arith) (omega arith) l.invariant whole (sym (rw width at c.same_bytes.ensures) ∙ w.if-same_bytes.true))
      | else-same_bytes w ↦ rw w.labels-is (passed c.args.hash _ _ l.labels l.k (omega arith) (omega arith) l.invariant (sym (rw width at c.same_bytes.ensures) ∙ w.if-same_bytes.false))
    ]

pub returns : goal.returns
returns c = all-dropped _ _ _ _ _ _ refl (omega arith) c.loop-k.invariant
