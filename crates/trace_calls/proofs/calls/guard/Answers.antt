use Prim.Native.Nat.{ℕ, ◌+◌, ◌*◌, ◌-◌, ◌≤◌}
use native.Mathlib.Omega.{arith}
use mathlib.Core.Path.{◌≡◌, refl, ap, ◌∙◌}
use lib.ListN.{length, take, drop, get_or}
use Rattle.trace_parts.specs.Parts.{count_at}
use Rattle.store_rules.specs.Store.{long}
use Rattle.trace_parts.proofs.Lists.{kept-front}
use Rattle.trace_calls.proofs.Making.{guard-as-read, not_made, made-alone}
use Rattle.trace_calls.proofs.Readers.{guard-read, guard-unhydratable, guard-reparked, guard-not, guard-kind-not, boundary-not}
use Rattle.trace_calls.proofs.calls.guard.Goals as goal
use Rattle.trace_calls.proofs.calls.guard.Goals.{in_default-bytes-via-in-1+else-bytes-end-ge8, in_default-bytes-via-in_default-1}

pub returns-in_default : goal.returns-in_default
returns-in_default c =
    let bs = c.args.bytes.now in
    λ slice hashes. not_made long c.args.q bs _ slice hashes _ (guard-not bs _ _ refl refl c.in_default.ensures) c.no_call.ensures

pub returns-in-1 : goal.returns-in-1
returns-in-1 c =
    let bs = c.args.bytes.now in
    let mid = c.in-Some.contents_at in
    let end = c.in-Some.end in
    let l = c.in-Some.ensures in
    let recorded = c.record_repark_guard_with_content-r in
    let h : end + 8 ≤ length bs = omega (arith, c.if-bytes-end-ge8.true, l.2) in
    let e : end - (mid + 2) ≡ 1 * count_at mid bs = omega (arith, l.1) in
    λ slice hashes. made-alone long c.args.q bs _ _ (end + 8) recorded.result _
    ((rw c.in-1.is at (guard-read bs (omega (arith, h)))) ∙ guard-reparked bs _ _ l.0 l.1 h) h c.answered.ensures tt slice hashes
    (guard-as-read c.args.q _ _ _ _ _ _ _ recorded.result c.array_at-hash.ensures (kept-front 35 bs _ _ _ c.put_numbers-count.ensures)
    (ap (λ (n : ℕ). take n (drop (mid + 2) bs)) e) (rw c.number-boundary.ensures at recorded.ensures))

pub returns-in-2 : goal.returns-in-2
returns-in-2 c =
    let bs = c.args.bytes.now in
    let mid = c.in-Some.contents_at in
    let end = c.in-Some.end in
    let l = c.in-Some.ensures in
    let recorded = c.record_unhydratable_guard_with_content-r in
    let e : end - (mid + 2) ≡ 1 * count_at mid bs = omega (arith, l.1) in
    λ slice hashes. made-alone long c.args.q bs _ _ end recorded.result _
    ((rw c.in-2.is at (guard-read bs (omega (arith, l.0, l.1, l.2)))) ∙ guard-unhydratable bs _ _ l.0 l.1 l.2) l.2 c.answered-in-2.ensures tt slice hashes
    (guard-as-read c.args.q _ _ _ _ _ _ _ recorded.result c.array_at-hash.ensures (kept-front 35 bs _ _ _ c.put_numbers-count.ensures)
    (ap (λ (n : ℕ). take n (drop (mid + 2) bs)) e) recorded.ensures)

pub returns-in_default-bytes : goal.returns-in_default-bytes
returns-in_default-bytes c =
    let bs = c.args.bytes.now in
    let l = c.in-Some.ensures in
    λ slice hashes. not_made long c.args.q bs _ slice hashes _
    (rw (guard-read bs (omega (arith, l.0, l.1, l.2))) (elim c.in_default-bytes.branch [
      | in_default-bytes-via-in-1+else-bytes-end-ge8 w ↦ rw w.in-1.is (boundary-not bs _ _ l.0 l.1 (omega (arith, w.if-bytes-end-ge8.false)))
      | in_default-bytes-via-in_default-1 w ↦ guard-kind-not bs (get_or bs 2 0) _ (λ e. omega arith) (λ e. omega arith)
    ])) c.no_call-in_default-bytes.ensures
