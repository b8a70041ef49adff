use Prim.Native.Nat.{◌+◌, ◌-◌, ◌*◌, ◌≤◌}
use borrow.Author.Rules.{rules}
use native.Mathlib.Omega.{arith}
use lib.ListN.{length}
use Rattle.store_rules.specs.View.{kind_of}
use Rattle.lists.specs.Lists.{written_at}
use Rattle.guards.proofs.BodyNumbers.{good-contents, body-put}
use Rattle.guards.proofs.Parts.{part-put}
use Rattle.guards.proofs.bodies.GuardBodies.put.Goals as goal

pub slice_bounds-copy_from_slice-end-4 : goal.slice_bounds-copy_from_slice-end-4
slice_bounds-copy_from_slice-end-4 c =
    let whole : length c.args.body.contents.now ≤ 512 = (good-contents c.args.body.contents.now c.requires.whole).0 in
    omega arith

pub returns : goal.returns
returns c =
    let a = c.args in
    let k = a.k in
    let head = c.head_of-head in
    let preds = a.body.predecessors.now in
    let content = a.body.contents.now in
    rw (
      c.copy_from_slice.ensures.after,
      c.copy_from_slice-2.ensures.after,
      c.copy_from_slice-3.ensures.after,
      part-put (20 * k) (20 * k + 4 - 20 * k) head.result a.self.now.numbers (omega (arith, head.ensures.sized)),
      part-put (20 * k + 4) (20 * k + 4 + length preds - (20 * k + 4)) preds (written_at (20 * k) head.result a.self.now.numbers) (omega arith),
      part-put (512 * k) (512 * k + length content - 512 * k) content a.self.now.contents (omega arith),
    )
    (body-put a.self.now.numbers a.self.now.contents k (search rules) (search rules) c.requires.within (kind_of a.body.kind) head.result preds content head.ensures c.requires.few c.requires.whole)
