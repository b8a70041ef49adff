-- A call ends within its bytes.
use Prim.Native.Nat.{ℕ, ◌≤◌}
use native.Mathlib.Omega.{arith}
use mathlib.Core.Path.{◌≡◌, ap}
use mathlib.Core.List.{List}
use Rattle.std.specs.Prelude.{Option, Some, None, Result, Ok, Err, IfSome, MatchResult}
use lib.ListN.{length}
use Rattle.lists.specs.Bytes.{Bytes}
use Rattle.refusal.specs.declared.Refusal.{Refusal}
use Rattle.store_rules.specs.Store.{Call, RowForm}
use Rattle.gap_quarantine.specs.declared.Quarantine.{Quarantine}
use Rattle.trace_format.specs.Reading.{ReadCall, got, cut_short, bad}
use Rattle.trace_calls.specs.Promises.{MakesOne, Makes}
use Rattle.trace_calls.specs.declared.Called.{Called}
use Rattle.trace_calls.specs.declared.Made.{Made}

-- the size of the call that was made, if one was
abbrev pub Sized : Result Called Refusal → Option ℕ → Type 0
Sized call size = MatchResult call (λ called. size ≡ Some called.size) (λ x. size ≡ None)

module _ (form : RowForm) (q : Quarantine) (bs : Bytes) (slice bytes slice' bytes' : List ℕ) where
  one-within : (c : Call) (n : ℕ) (call : Result Called Refusal) (store : Quarantine) (size : Option ℕ) → n ≤ length bs →
      MakesOne form q c n slice bytes call store slice' bytes' → Sized call size → IfSome size (λ s. s ≤ length bs)
  one-within c n (Ok k) store size h m e = rw e (omega (arith, m.size))
  one-within c n (Err x) store size h m e = absurd m

  none-within : (call : Result Called Refusal) (x : Refusal) (size : Option ℕ) → call ≡ Err x → Sized call size → IfSome size (λ s. s ≤ length bs)
  none-within call x size e s = let none : size ≡ None = rw e at s in rw none tt

  pub size-within : (read : ReadCall) (r : Made) (size : Option ℕ) → Makes form q bs read slice bytes r slice' bytes' → Sized r.call size → IfSome size (λ s. s ≤ length bs)
  size-within (got c rest) r size m e = one-within c _ r.call r.store size (omega arith) m e
  size-within cut_short r size m e = none-within r.call _ size (ap (λ (x : Made). x.call) m.0) e
  size-within bad r size m e = none-within r.call _ size (ap (λ (x : Made). x.call) m.0) e
