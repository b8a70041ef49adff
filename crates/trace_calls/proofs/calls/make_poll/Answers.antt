use native.Mathlib.Omega.{arith}
use mathlib.Core.Path.{◌≡◌, sym, ◌∙◌}
use lib.ListN.{get_or}
use Rattle.decisions.specs.Courses.{form_of}
use Rattle.trace_format.specs.Reading.{by_flag}
use Rattle.trace_parts.specs.Parts.{list_end, numbers_at}
use Rattle.trace_parts.proofs.Lists.{kept-front}
use Rattle.trace_calls.proofs.Places.{not_found, end-found}
use Rattle.trace_calls.proofs.Making.{not_made, made-numbers, poll-as-read}
use Rattle.trace_calls.proofs.Readers.{poll-read, poll-not, flag-bad}
use Rattle.trace_calls.proofs.calls.make_poll.Goals as goal

pub returns-in_default : goal.returns-in_default
returns-in_default c =
    let bs = c.args.bytes.now in
    let n = not_found bs (list_end 8 30 bs) c.in_default.ensures in
    λ hashes. not_made (form_of c.args.form) c.args.q bs _ _ hashes _ (poll-not bs (omega (arith, n))) c.no_call.ensures

pub returns-in_default-get : goal.returns-in_default-get
returns-in_default-get c =
    let bs = c.args.bytes.now in
    let e = end-found bs (list_end 8 30 bs) c.in-Some.at c.in-Some.ensures in
    λ hashes. not_made (form_of c.args.form) c.args.q bs _ _ hashes _ (poll-not bs (omega (arith, e.0, c.in_default-get.ensures.lookup.3))) c.no_call-in_default-get.ensures

pub returns-in-0 : goal.returns-in-0
unfolding by_flag
returns-in-0 c =
    let a = c.args in
    let bs = a.bytes.now in
    let at = c.in-Some.at in
    let e = end-found bs (list_end 8 30 bs) at c.in-Some.ensures in
    let there = c.in-Some-get.ensures.lookup.3 in
    let flag : get_or bs at 0 ≡ 0 = sym (there.1 0) ∙ c.in-0.is in
    let polled = c.poll_alone-r in
    λ hashes. made-numbers (form_of a.form) a.q bs _ _ _ polled.result _
    (rw flag at (poll-read bs at e.0 there.0)) (omega (arith, there.0)) c.answered.ensures tt _ _ hashes
    (poll-as-read (form_of a.form) a.q _ _ _ _ _ _ _ _ polled.result c.array_at-sender.ensures c.number-head.ensures
    (kept-front 30 bs _ _ _ c.put_numbers-count.ensures) polled.ensures)

pub returns-in-1 : goal.returns-in-1
unfolding by_flag
returns-in-1 c =
    let bs = c.args.bytes.now in
    let at = c.in-Some.at in
    let e = end-found bs (list_end 8 30 bs) at c.in-Some.ensures in
    let there = c.in-Some-get.ensures.lookup.3 in
    let flag : get_or bs at 0 ≡ 1 = sym (there.1 0) ∙ c.in-1.is in
    λ hashes. rw (poll-read bs at e.0 there.0, flag)
    (c.poll_content_at.ensures (numbers_at 30 bs) hashes (kept-front 30 bs _ _ _ c.put_numbers-count.ensures))

pub returns-in_default-flag : goal.returns-in_default-flag
returns-in_default-flag c =
    let bs = c.args.bytes.now in
    let at = c.in-Some.at in
    let e = end-found bs (list_end 8 30 bs) at c.in-Some.ensures in
    let there = c.in-Some-get.ensures.lookup.3 in
    let flag = there.1 0 in
    λ hashes. not_made (form_of c.args.form) c.args.q bs _ _ hashes _
    (rw (poll-read bs at e.0 there.0) (flag-bad (get_or bs at 0) _ _ (λ z. omega (arith, flag, z)) (λ o. omega (arith, flag, o)))) c.no_call-in_default-flag.ensures
