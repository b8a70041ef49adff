use native.Mathlib.Omega.{arith}
use mathlib.Core.Path.{◌∙◌}
use lib.ListN.{get_or}
use Rattle.store_rules.specs.Store.{long}
use Rattle.trace_format.specs.Reading.{by_flag}
use Rattle.trace_calls.proofs.Making.{not_made, made-numbers}
use Rattle.trace_calls.proofs.Readers.{reorg-read, reorg-hash, reorg-not, reorg-cut, flag-bad}
use Rattle.trace_calls.proofs.calls.reorganise.Goals as goal
use Rattle.trace_calls.proofs.calls.reorganise.Goals.{in_default-via-in-1+else-bytes-ge43, in_default-via-in_default-1}

pub returns-then-bytes-lt11 : goal.returns-then-bytes-lt11
returns-then-bytes-lt11 c = λ hashes. not_made long c.args.q c.args.bytes.now _ _ hashes _ (reorg-not c.args.bytes.now c.if-bytes-lt11.true) c.no_call.ensures

pub returns-in-0 : goal.returns-in-0
unfolding by_flag
returns-in-0 c =
    let bs = c.args.bytes.now in
    let h = c.if-bytes-lt11.false in
    λ hashes. made-numbers long c.args.q bs _ _ 11 c.check_reorg.result _ (rw c.in-0.is at (reorg-read bs h)) h c.answered.ensures tt _ _ hashes (rw c.number-block.ensures at c.check_reorg.ensures)

pub returns-in-1 : goal.returns-in-1
unfolding by_flag
returns-in-1 c =
    let bs = c.args.bytes.now in
    let h = c.if-bytes-ge43.true in
    λ hashes. made-numbers long c.args.q bs _ _ 43 c.check_reorg-in-1.result _ ((rw c.in-1.is at (reorg-read bs c.if-bytes-lt11.false)) ∙ reorg-hash bs h) h c.answered-in-1.ensures tt _ _ hashes (rw (c.number-block.ensures, c.array_at.ensures) at c.check_reorg-in-1.ensures)

pub returns-in_default : goal.returns-in_default
unfolding by_flag
returns-in_default c =
    let bs = c.args.bytes.now in
    λ hashes. not_made long c.args.q bs _ _ hashes _
    (rw (reorg-read bs c.if-bytes-lt11.false) (elim c.in_default.branch [
      | in_default-via-in-1+else-bytes-ge43 w ↦ rw w.in-1.is (reorg-cut bs (omega (arith, w.if-bytes-ge43.false)))
      | in_default-via-in_default-1 w ↦ flag-bad (get_or bs 10 0) _ _ (λ e. omega arith) (λ e. omega arith)
    ])) c.no_call-in_default.ensures
