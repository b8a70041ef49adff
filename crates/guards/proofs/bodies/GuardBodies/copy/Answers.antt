use native.Mathlib.Omega.{arith}
use borrow.Author.Rules.{rules}
use Prim.Native.Nat.{◌*◌}
use Rattle.guards.proofs.BodyNumbers.{body-moved}
use Rattle.guards.proofs.Parts.{part-moved}
use Rattle.guards.proofs.bodies.GuardBodies.copy.Goals as goal

pub returns : goal.returns
returns c =
    let a = c.args in
    let n = a.self.now.numbers in
    let m = a.self.now.contents in
    rw (c.copy_within.ensures.after, c.copy_within-2.ensures.after, part-moved (20 * a.i) (20 * a.k) 20 n (omega arith), part-moved (512 * a.i) (512 * a.k) 512 m (omega arith))
    (body-moved n m a.k (search rules) (search rules) c.requires.to a.i c.requires.from)
