use Prim.Native.Nat.{ℕ, ◌+◌, ◌*◌, ◌-◌}
use native.Mathlib.Omega.{arith}
use mathlib.Core.Path.{◌≡◌, refl, ap}
use lib.ListN.{take, drop}
use Rattle.decisions.specs.Courses.{form_of}
use Rattle.trace_parts.specs.Parts.{count_at}
use Rattle.trace_parts.proofs.Lists.{kept-front}
use Rattle.trace_calls.proofs.Making.{not_made, made-numbers, content-as-read}
use Rattle.trace_calls.proofs.Readers.{content-in, content-not}
use Rattle.trace_calls.proofs.calls.poll_content_at.Goals as goal

pub returns-in_default : goal.returns-in_default
returns-in_default c =
    let bs = c.args.bytes.now in
    λ list hashes e. not_made (form_of c.args.form) c.args.q bs _ _ hashes _ (content-not bs c.args.at _ _ refl c.in_default.ensures) c.no_call.ensures

pub returns : goal.returns
returns c =
    let a = c.args in
    let bs = a.bytes.now in
    let mid = c.in-Some.hashes_at in
    let end = c.in-Some.end in
    let l = c.in-Some.ensures in
    let polled = c.poll_with_content-r in
    let e : end - (mid + 2) ≡ 1 * count_at mid bs = omega (arith, l.1) in
    λ list hashes k. made-numbers (form_of a.form) a.q bs _ _ end polled.result _
    (content-in bs a.at _ _ _ l.0 l.1 l.2) l.2 c.answered.ensures tt _ _ hashes
    (content-as-read (form_of a.form) a.q _ _ _ _ list _ _ _ polled.result c.array_at-sender.ensures c.number-head.ensures k _ _ _ _
    (kept-front a.at bs _ _ _ c.put_numbers-count.ensures) (ap (λ (n : ℕ). take n (drop (mid + 2) bs)) e) polled.ensures)
