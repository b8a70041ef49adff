use mathlib.Core.Path.{sym, ◌∙◌}
use Rattle.std.proofs.lemmas.Result.{err_from_is_err_and}
use Rattle.store_rules.specs.View.{guard_seen, body_seen}
use Rattle.gap_quarantine.proofs.RecordSteps.{many-preds, bad-content, no_room, recorded-in}
use Rattle.gap_quarantine.proofs.recording.record.Goals as goal

pub returns-then-body-gt16 : goal.returns-then-body-gt16
returns-then-body-gt16 c = let a = c.args in many-preds a.h.now a.bodies.now (guard_seen a.hash (body_seen a.body)) c.if-body-gt16.true

pub returns-then-bad_contents : goal.returns-then-bad_contents
returns-then-bad_contents c =
    let a = c.args in
    bad-content a.h.now a.bodies.now (guard_seen a.hash (body_seen a.body)) c.if-body-gt16.false (sym c.bad_contents.ensures ∙ c.if-bad_contents.true)

pub returns-in_err-h : goal.returns-in_err-h
returns-in_err-h c =
    let a = c.args in
    let p = err_from_is_err_and c.from_residual.result c.from_residual.ensures.1 in
    rw (p.1, p.2)
    (no_room a.h.now a.bodies.now (guard_seen a.hash (body_seen a.body)) c.if-body-gt16.false (sym c.bad_contents.ensures ∙ c.if-bad_contents.false) _ _ _ c.in_err-h.ensures)

pub returns : goal.returns
returns c =
    let a = c.args in
    recorded-in a.h.now a.bodies.now (guard_seen a.hash (body_seen a.body)) c.if-body-gt16.false (sym c.bad_contents.ensures ∙ c.if-bad_contents.false) _ _ _ c.in_ok-h.ensures
