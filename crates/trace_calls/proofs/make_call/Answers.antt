use native.Mathlib.Omega.{arith}
use Rattle.std.proofs.lemmas.Bool.Decides.{nat_tests}
use Rattle.lists.specs.Bytes.{eq_bytes}
use Rattle.store_rules.specs.Store.{long}
use Rattle.trace_format.specs.Reading.{by_mark}
use Rattle.trace_calls.proofs.Making.{not_made}
use Rattle.trace_calls.proofs.Readers.{call-at, no-mark}
use Rattle.trace_calls.proofs.make_call.Goals as goal
use Rattle.trace_calls.proofs.make_call.Goals.{in_default-via-then-bytes-lt2, in_default-via-else-bytes-lt2+in-67+in_default-1, in_default-via-else-bytes-lt2+in_default-1}

pub returns-in-67 : goal.returns-in-67
unfolding by_mark eq_bytes
returns-in-67 c = rw (call-at c.args.bytes.now 80 c.in-67.len_at_least (omega arith) (omega arith)) (c.push.ensures _ _)

pub returns-in-67-2 : goal.returns-in-67-2
unfolding by_mark eq_bytes
returns-in-67-2 c = rw (call-at c.args.bytes.now 81 c.in-67-2.len_at_least (omega arith) (omega arith)) (c.make_poll.ensures _)

pub returns-in-67-3 : goal.returns-in-67-3
unfolding by_mark eq_bytes
returns-in-67-3 c = rw (call-at c.args.bytes.now 71 c.in-67-3.len_at_least (omega arith) (omega arith)) (c.guard.ensures _ _)

pub returns-in-67-4 : goal.returns-in-67-4
unfolding by_mark eq_bytes
returns-in-67-4 c = rw (call-at c.args.bytes.now 69 c.in-67-4.len_at_least (omega arith) (omega arith)) (c.enter.ensures _ _)

pub returns-in-67-5 : goal.returns-in-67-5
unfolding by_mark eq_bytes
returns-in-67-5 c = rw (call-at c.args.bytes.now 82 c.in-67-5.len_at_least (omega arith) (omega arith)) (c.reorganise.ensures _)

pub returns-in-67-6 : goal.returns-in-67-6
unfolding by_mark eq_bytes
returns-in-67-6 c = rw (call-at c.args.bytes.now 70 c.in-67-6.len_at_least (omega arith) (omega arith)) c.finalise.ensures

pub returns-in-67-7 : goal.returns-in-67-7
unfolding by_mark eq_bytes
returns-in-67-7 c = rw (call-at c.args.bytes.now 86 c.in-67-7.len_at_least (omega arith) (omega arith)) (c.evict.ensures _)

pub returns-in_default : goal.returns-in_default
returns-in_default c =
    let bs = c.args.bytes.now in
    not_made long c.args.q bs _ _ _ _ (elim c.in_default.branch [
      | in_default-via-then-bytes-lt2 w ↦ no-mark bs (λ h a b. grind (arith, nat_tests)) (λ h a b. grind (arith, nat_tests)) (λ h a b. grind (arith, nat_tests)) (λ h a b. grind (arith, nat_tests)) (λ h a b. grind (arith, nat_tests)) (λ h a b. grind (arith, nat_tests)) (λ h a b. grind (arith, nat_tests))
      | in_default-via-else-bytes-lt2+in-67+in_default-1 w ↦ no-mark bs (λ h a b. omega arith) (λ h a b. omega arith) (λ h a b. omega arith) (λ h a b. omega arith) (λ h a b. omega arith) (λ h a b. omega arith) (λ h a b. omega arith)
      | in_default-via-else-bytes-lt2+in_default-1 w ↦ no-mark bs (λ h a b. omega arith) (λ h a b. omega arith) (λ h a b. omega arith) (λ h a b. omega arith) (λ h a b. omega arith) (λ h a b. omega arith) (λ h a b. omega arith)
    ]) c.no_call.ensures
