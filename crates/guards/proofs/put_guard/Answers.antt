use native.Mathlib.Omega.{arith}
use Rattle.store_rules.specs.View.{body_seen, guard_seen}
use Rattle.guards.specs.Recording.{bodies_in}
use Rattle.guards.proofs.Holding.{within}
use Rattle.guards.proofs.Recorded.{replaced, refused, added}
use Rattle.guards.proofs.put_guard.Goals as goal

pub put-requires-clause-within : goal.put-requires-clause-within
put-requires-clause-within c = within c.args.hash c.args.guards c.args.labels.now (bodies_in c.args.bodies.now) c.in-Some.k c.in-Some.ensures

pub returns-in-Some : goal.returns-in-Some
returns-in-Some c =
    let a = c.args in
    replaced (guard_seen a.hash (body_seen a.body)) a.guards c.min-len.result a.labels.now a.bodies.now c.min-len.ensures c.in-Some.k _ (c.in-Some.ensures) c.put.ensures

pub returns-then-count_standing-ge64 : goal.returns-then-count_standing-ge64
returns-then-count_standing-ge64 c =
    let a = c.args in
    refused (guard_seen a.hash (body_seen a.body)) a.guards c.min-len.result a.labels.now a.bodies.now c.min-len.ensures (c.in_default.ensures) (omega (arith, c.count_standing.ensures))

pub make_room-w-requires : goal.make_room-w-requires
make_room-w-requires c = record { few = omega arith; room = omega (arith, c.count_standing.ensures) }

pub returns : goal.returns
returns c =
    let a = c.args in
    let moved = c.make_room-w in
    added (guard_seen a.hash (body_seen a.body)) a.guards c.min-len.result a.labels.now a.bodies.now c.min-len.ensures (c.in_default.ensures)
    moved.result moved.new.labels c.put_label.new.labels moved.new.bodies c.put-2.new.self
    moved.ensures.within (omega (arith, c.count_standing.ensures)) moved.ensures.moved c.put_label.ensures c.put-2.ensures
