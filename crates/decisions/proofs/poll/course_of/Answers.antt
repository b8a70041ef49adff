use mathlib.Core.Path.{sym, ◌∙◌}
use Rattle.std.specs.Prelude.{None, Some}
use Rattle.short_rows.proofs.Gathering.{lists-front}
use Rattle.store_rules.specs.View.{entry_of, content_seen, guards_seen}
use Rattle.decisions.proofs.Deciding.{other, any-guard, no-match, no-guard, guarded, keeps, silent-keeps, matched}
use Rattle.decisions.proofs.poll.course_of.Goals as goal

pub returns-then-not-same_address : goal.returns-then-not-same_address
returns-then-not-same_address c = λ bodies so. other _ _ _ _ _ _ (sym c.if-not-same_address.ensures)

pub returns-in_err-telling : goal.returns-in_err-telling
returns-in_err-telling c = λ bodies so.
    rw c.from_residual.ensures (any-guard _ _ _ _ _ _ (sym c.if-not-same_address.ensures) None c.in_err-telling.ensures (silent-keeps c.args.poll.now.head c.args.poll.now.known.now (entry_of c.args.e.now)))

pub returns-in_default : goal.returns-in_default
returns-in_default c = λ bodies so.
    any-guard _ _ _ _ _ _ (sym c.if-not-same_address.ensures) (Some c.in_ok-telling.telling) c.in_ok-telling.ensures (keeps c.in_ok-telling.telling c.in_default.not-Rescued _ _ _)

pub returns-in_default-given : goal.returns-in_default-given
returns-in_default-given c = λ bodies so.
    no-guard _ _ _ _ _ _ (sym c.if-not-same_address.ensures) (Some c.in_ok-telling.telling) c.in_ok-telling.ensures (rw c.in_default-given.is)

pub guard_holds-requires : goal.guard_holds-requires
guard_holds-requires c = rw c.in-Some.is at c.requires

pub returns-then-guard_holds : goal.returns-then-guard_holds
returns-then-guard_holds c = λ bodies so.
    let given = c.in-Some.given in
    let d = rw c.in-Rescued.is at c.in_ok-telling.ensures in
    let m = matched c.args.e.now.frame.hash (λ b. guards_seen b c.args.h.now) bodies _ (content_seen given.content) _ _ _ _ (rw c.in-Some.is at so) (rw c.in-Rescued.is at (lists-front _ _ c.listed-preds.ensures)) c.guard_holds.ensures in
    rw c.in-Some.is (guarded _ _ _ _ _ _ (sym c.if-not-same_address.ensures) d (m ∙ c.if-guard_holds.true))

pub returns : goal.returns
returns c = λ bodies so.
    let given = c.in-Some.given in
    let m = matched c.args.e.now.frame.hash (λ b. guards_seen b c.args.h.now) bodies _ (content_seen given.content) _ _ _ _ (rw c.in-Some.is at so) (rw c.in-Rescued.is at (lists-front _ _ c.listed-preds.ensures)) c.guard_holds.ensures in
    rw c.in-Some.is (no-match _ _ _ _ _ _ (sym c.if-not-same_address.ensures) (Some c.in_ok-telling.telling) c.in_ok-telling.ensures (m ∙ c.if-guard_holds.false))
