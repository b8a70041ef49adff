use Prim.Native.Nat.{◌+◌, ◌-◌, ◌*◌}
use borrow.Author.Rules.{rules}
use native.Mathlib.Omega.{arith}
use Rattle.store_rules.specs.View.{kind_of}
use Rattle.guards.proofs.BodyNumbers.{body-read}
use Rattle.guards.proofs.bodies.GuardBodies.at.Goals as goal

pub returns : goal.returns
returns c =
    let a = c.args in
    let p = c.min-count.result in
    let q = c.min-hashes.result in
    body-read a.self.now.numbers a.self.now.contents a.k (search rules) (search rules) c.requires (kind_of c.kind_at.result) (20 * a.k + 4 + p - (20 * a.k + 4)) (512 * a.k + 32 * q - 512 * a.k)
    c.kind_at.ensures (omega (arith, c.min-count.ensures)) (omega (arith, c.min-hashes.ensures))
