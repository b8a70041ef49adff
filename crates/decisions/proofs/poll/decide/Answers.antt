use mathlib.Core.Path.{refl, sym, ◌∙◌}
use mathlib.Core.Bool.{false}
use borrow.Author.Tests.{lt-ltb, le-ltb, not-true, not-false}
use Rattle.store_rules.specs.Poll.{row}
use Rattle.store_rules.specs.View.{entry_of}
use Rattle.store_rules.proofs.PollCases.{silent, consumed, holds, hold, waits, rescued, poll-is}
use Rattle.decisions.proofs.Deciding.{tracked-is, tentative-is, held-eq}
use Rattle.decisions.proofs.poll.decide.Goals as goal

pub returns-in_default : goal.returns-in_default
returns-in_default c = let e = c.args.e.now in poll-is c.args.poll.now.head c.args.poll.now.known.now false (entry_of e) (silent (tentative-is e _ c.in_default.is))

pub returns-then-e-poll : goal.returns-then-e-poll
unfolding row
returns-then-e-poll c = let e = c.args.e.now in poll-is c.args.poll.now.head c.args.poll.now.known.now false (entry_of e) (consumed (tracked-is e c.in-Tracked.is) (lt-ltb _ _ c.if-e-poll.true))

pub returns-then-eq : goal.returns-then-eq
returns-then-eq c =
    let e = c.args.e.now in
    poll-is c.args.poll.now.head c.args.poll.now.known.now false (entry_of e) (holds (tracked-is e c.in-Tracked.is) (le-ltb _ _ c.if-e-poll.false) (sym c.is_degraded.ensures ∙ c.if-is_degraded.true) (sym (c.if-eq.ensures ∙ held-eq e.held c.args.poll.now.head)))

pub returns-then-is_degraded : goal.returns-then-is_degraded
unfolding row
returns-then-is_degraded c =
    let e = c.args.e.now in
    poll-is c.args.poll.now.head c.args.poll.now.known.now false (entry_of e) (hold (tracked-is e c.in-Tracked.is) (le-ltb _ _ c.if-e-poll.false) (sym c.is_degraded.ensures ∙ c.if-is_degraded.true) (sym (c.if-eq.ensures ∙ held-eq e.held c.args.poll.now.head)))

pub returns-then-any_unknown : goal.returns-then-any_unknown
unfolding row
returns-then-any_unknown c =
    let e = c.args.e.now in
    poll-is c.args.poll.now.head c.args.poll.now.known.now false (entry_of e) (waits (tracked-is e c.in-Tracked.is) (le-ltb _ _ c.if-e-poll.false) (sym c.is_degraded.ensures ∙ c.if-is_degraded.false) (not-true _ (sym c.any_unknown.ensures ∙ c.if-any_unknown.true)))

pub returns : goal.returns
unfolding row
returns c =
    let e = c.args.e.now in
    poll-is c.args.poll.now.head c.args.poll.now.known.now false (entry_of e) (rescued (tracked-is e c.in-Tracked.is) (le-ltb _ _ c.if-e-poll.false) (sym c.is_degraded.ensures ∙ c.if-is_degraded.false) (not-false _ (sym c.any_unknown.ensures ∙ c.if-any_unknown.false)) refl)
