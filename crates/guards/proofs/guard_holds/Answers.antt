use mathlib.Core.Path.{ap, ◌∙◌}
use Rattle.std.specs.Prelude.{Some}
use Rattle.store_rules.specs.Poll.{guard_matches}
use Rattle.store_rules.specs.View.{content_seen, guard_seen}
use Rattle.guards.specs.Recording.{bodies_in}
use Rattle.guards.proofs.Holding.{within, missing, there}
use Rattle.guards.proofs.guard_holds.Goals as goal

pub at-requires : goal.at-requires
at-requires c = within c.args.hash c.args.h.now.guards c.args.h.now.labels (bodies_in c.args.bodies.now) c.in-Some.k c.in-Some.ensures

pub returns-in-None : goal.returns-in-None
unfolding guard_matches
returns-in-None c =
    let a = c.args in
    rw (missing a.hash a.h.now.guards a.h.now.labels (bodies_in a.bodies.now) (c.in-None.ensures))

pub returns-in-Some : goal.returns-in-Some
returns-in-Some c =
    let a = c.args in
    rw (there a.hash a.h.now.guards a.h.now.labels (bodies_in a.bodies.now) c.in-Some.k (c.in-Some.ensures)) (c.guard_matches.ensures a.hash ∙ ap (λ b. guard_matches (Some (guard_seen a.hash b)) a.preds.now a.expected (Some (content_seen a.content))) c.at.ensures)
