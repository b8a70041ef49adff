-- The trace that bytes are read as, call by call.
use Prim.Native.Nat.{ℕ, zero, suc, ◌≤◌}
use native.Mathlib.Omega.{arith}
use mathlib.Core.Path.{◌≡◌, refl, ap}
use mathlib.Core.Bool.{Bool, true, false}
use mathlib.Core.List.{[], ◌∷◌}
use lib.ListN.{length}
use borrow.Author.Tests.{le-ltb}
use Rattle.lists.specs.Bytes.{Bytes}
use Rattle.lists.specs.Lists.{is_empty}
use Rattle.store_rules.specs.Store.{Call}
use Rattle.trace_format.specs.Reading.{got, cut_short, bad, ReadCall, read_call}
use Rattle.trace_format.specs.Standing.{NotRead}
use Rattle.trace_format.specs.Traces.{Trace, starting_with, read_calls, read_trace}
use Rattle.trace_format.proofs.Standing.{call-place}

-- they are read as this trace, if as many calls as bytes are allowed, or more
abbrev pub ReadAs : Bytes → Trace → Type 0
ReadAs bs t = (k : ℕ) → length bs ≤ k → read_calls k bs ≡ t

abbrev pub no_calls : Bool → Trace
no_calls whole = record { calls = []; whole = whole }

abbrev pub with_call : Call → Trace → Trace
with_call c t = record { calls = c ∷ t.calls; whole = t.whole }

pub read_none : ReadAs [] (no_calls true)
unfolding read_calls is_empty
read_none zero h = refl
read_none (suc k) h = refl

pub read-no-call : (bs : Bytes) → is_empty bs ≡ false → NotRead (read_call bs) → ReadAs bs (no_calls false)
unfolding read_calls starting_with
read-no-call bs e n zero h = rw e
read-no-call bs e n (suc k) h = rw e (go (read_call bs) n)
  where
    go : (r : ReadCall) → NotRead r → starting_with r (λ rest. read_calls k rest) ≡ no_calls false
    go (got c rest) n = absurd n
    go cut_short n = refl
    go bad n = refl

pub read-call : (bs rest : Bytes) (c : Call) (t : Trace) → read_call bs ≡ got c rest → ReadAs rest t → ReadAs bs (with_call c t)
unfolding read_calls starting_with is_empty
read-call [] rest c t e r k h = let p = call-place [] c rest e in absurd (omega (arith, p.1))
read-call (b ∷ bs) rest c t e r zero h = absurd (omega arith)
read-call (b ∷ bs) rest c t e r (suc k) h =
    let p = call-place (b ∷ bs) c rest e in
    rw e (ap (with_call c) (r k (omega (arith, p.1))))

pub read_whole : (bs : Bytes) (t : Trace) → length bs ≤ 65536 → ReadAs bs t → read_trace bs ≡ t
unfolding read_trace
read_whole bs t h r = rw (le-ltb 65536 (length bs) h) (r (length bs) (omega arith))
