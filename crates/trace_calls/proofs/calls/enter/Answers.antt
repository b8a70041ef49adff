use native.Mathlib.Omega.{arith}
use mathlib.Core.Path.{◌∙◌}
use lib.ListN.{get_or}
use Rattle.store_rules.specs.Store.{long}
use Rattle.trace_calls.proofs.Making.{not_made, made}
use Rattle.trace_calls.proofs.Readers.{enter-read, enter-mined, enter-taken, enter-taken-by, enter-not, taker-not, kind-not}
use Rattle.trace_calls.proofs.calls.enter.Goals as goal
use Rattle.trace_calls.proofs.calls.enter.Goals.{in_default-via-in-3+else-bytes-ge107, in_default-via-in_default-1}

pub returns-then-bytes-lt75 : goal.returns-then-bytes-lt75
returns-then-bytes-lt75 c = λ slice hashes. not_made long c.args.q c.args.bytes.now _ slice hashes _ (enter-not c.args.bytes.now c.if-bytes-lt75.true) c.no_call.ensures

pub returns-in-1 : goal.returns-in-1
returns-in-1 c =
    let bs = c.args.bytes.now in
    let h = c.if-bytes-lt75.false in
    λ slice hashes. made long c.args.q bs _ _ 75 slice hashes _ slice hashes ((rw c.in-1.is at (enter-read bs h)) ∙ enter-mined bs h) h (rw c.number-block.ensures at (c.enter_by.ensures slice hashes))

pub returns-in-2 : goal.returns-in-2
returns-in-2 c =
    let bs = c.args.bytes.now in
    let h = c.if-bytes-lt75.false in
    λ slice hashes. made long c.args.q bs _ _ 75 slice hashes _ slice hashes ((rw c.in-2.is at (enter-read bs h)) ∙ enter-taken bs h) h (rw c.number-block.ensures at (c.enter_by-in-2.ensures slice hashes))

pub returns-in-3 : goal.returns-in-3
returns-in-3 c =
    let bs = c.args.bytes.now in
    let h = c.if-bytes-lt75.false in
    λ slice hashes. made long c.args.q bs _ _ 107 slice hashes _ slice hashes ((rw c.in-3.is at (enter-read bs h)) ∙ enter-taken-by bs h c.if-bytes-ge107.true) c.if-bytes-ge107.true
    (rw (c.number-block.ensures, c.array_at-taker.ensures) at (c.enter_by-in-3.ensures slice hashes))

pub returns-in_default : goal.returns-in_default
returns-in_default c =
    let bs = c.args.bytes.now in
    λ slice hashes. not_made long c.args.q bs _ slice hashes _
    (rw (enter-read bs c.if-bytes-lt75.false) (elim c.in_default.branch [
      | in_default-via-in-3+else-bytes-ge107 w ↦ rw w.in-3.is (taker-not bs (omega (arith, w.if-bytes-ge107.false)))
      | in_default-via-in_default-1 w ↦ kind-not bs (get_or bs 34 0) _ _ (λ e. omega arith) (λ e. omega arith) (λ e. omega arith)
    ])) c.no_call-in_default.ensures
