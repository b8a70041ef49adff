use Prim.Native.Nat.{◌+◌, ◌-◌, ◌*◌}
use native.Mathlib.Omega.{arith}
use mathlib.Core.Path.{◌≡◌}
use lib.ListN.{length}
use Rattle.guards.proofs.Labels.{label-put}
use Rattle.guards.proofs.Parts.{part-put}
use Rattle.guards.proofs.put_label.Goals as goal

pub returns : goal.returns
returns c =
    let a = c.args in
    let sized : length a.hash ≡ 32 = omega arith in
    rw (c.copy_from_slice.ensures.after, part-put (33 * a.k) (33 * a.k + 32 - 33 * a.k) a.hash a.labels.now (omega arith)) (label-put a.labels.now a.k c.requires (omega arith) a.hash sized)
