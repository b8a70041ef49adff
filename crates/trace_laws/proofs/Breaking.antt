-- `every-break`: a trace with a 19 is its calls before that place, whatever stands from there on.
use Prim.Native.Nat.{ℕ, zero, suc, ◌+◌, ◌≤◌}
use native.Mathlib.Omega.{arith}
use mathlib.Core.Path.{◌≡◌, refl, sym, ap, ◌∙◌, subst}
use mathlib.Core.Bool.{Bool, true, false}
use mathlib.Core.List.{List, [], ◌∷◌, ◌++◌, append_assoc, append-nil}
use lib.ListN.{length, take, drop, length-append}
use lib.Seq.{take-append_seam, drop-append_seam}
use Rattle.lists.specs.Bytes.{Bytes}
use Rattle.lists.specs.Lists.{is_empty}
use Rattle.lists.proofs.ByteOrder.{clash}
use Rattle.store_rules.specs.Store.{Call}
use Rattle.trace_format.specs.Reading.{ReadCall, got, cut_short, bad, read_call}
use Rattle.trace_format.specs.Standing.{NotRead}
use Rattle.trace_format.specs.Traces.{Trace, read_trace}
use Rattle.trace_format.proofs.Standing.{every-call-stands, call-place}
use Rattle.trace_laws.specs.Laws.{Breaks, EveryBreak}
use Rattle.trace_format.proofs.Calls.{ReadAs, no_calls, read_none, read-no-call, read-call, read_whole}

data End (bs : Bytes) : Type 0 where
  ended : bs ≡ [] → End bs
  no_call : is_empty bs ≡ false → NotRead (read_call bs) → End bs

-- bytes up to the end of their last call, and those behind it
record Split (bs : Bytes) : Type 0 where
  front : Bytes
  back : Bytes
  is : bs ≡ front ++ back
  end : End back
  calls : List Call
  anyway : (behind : Bytes) (whole : Bool) → ReadAs behind (no_calls whole) → ReadAs (front ++ behind) (record { calls = calls; whole = whole })

stops : (bs : Bytes) → End bs → Split bs
stops bs e = record { front = []; back = bs; is = refl; end = e; calls = []; anyway = λ behind whole r. r }

split : (k : ℕ) (bs : Bytes) → length bs ≤ k → Split bs
unfolding is_empty
split zero [] h = stops [] (ended refl)
split zero (b ∷ bs) h = absurd (omega arith)
split (suc k) [] h = stops [] (ended refl)
split (suc k) (b ∷ bs) h = go (read_call (b ∷ bs)) refl (λ rest l. split k rest l)
  where
    go : (r : ReadCall) → read_call (b ∷ bs) ≡ r → ((rest : Bytes) → length rest ≤ k → Split rest) → Split (b ∷ bs)
    go (got c rest) e ih =
        let f = every-call-stands (b ∷ bs) c rest e in
        let p = call-place (b ∷ bs) c rest e in
        let s = ih rest (omega (arith, p.1)) in
        record {
          front = f.front ++ s.front;
          back = s.back;
          is = rw (append_assoc, ← s.is) f.is;
          end = s.end;
          calls = c ∷ s.calls;
          anyway = λ behind whole r. rw append_assoc (read-call _ _ c _ (f.alone (s.front ++ behind)) (s.anyway behind whole r));
        }
    go cut_short e ih = stops (b ∷ bs) (no_call refl (rw e tt))
    go bad e ih = stops (b ∷ bs) (no_call refl (rw e tt))

pub every-break : EveryBreak
every-break bs short broken = go s.end
  where
    s : Split bs
    s = split (length bs) bs (omega arith)

    reads : (whole : Bool) → ReadAs s.back (no_calls whole) → read_trace bs ≡ record { calls = s.calls; whole = whole }
    reads whole r = read_whole bs _ short (subst (λ (b : Bytes). ReadAs b (record { calls = s.calls; whole = whole })) (sym s.is) (s.anyway s.back whole r))

    front : take (length s.front) bs ≡ s.front
    front = ap (take (length s.front)) s.is ∙ take-append_seam s.front s.back

    back : drop (length s.front) bs ≡ s.back
    back = ap (drop (length s.front)) s.is ∙ drop-append_seam s.front s.back

    go : End s.back → Breaks bs
    go (ended e) = clash (ap (λ (t : Trace). t.whole) (reads true (subst (λ (b : Bytes). ReadAs b (no_calls true)) (sym e) read_none))) broken
    go (no_call e n) =
        let t = reads false (read-no-call s.back e n) in
        let l : length bs ≡ length s.front + length s.back = ap length s.is ∙ length-append s.front s.back in
        record {
          at = length s.front;
          before = rw (front, t) (read_whole s.front _ (omega arith) (rw (append-nil s.front) at (s.anyway [] true read_none)));
          none = rw back n;
          anyway = λ behind e n h. rw (front, t) (read_whole (s.front ++ behind) _ (rw length-append h) (s.anyway behind false (read-no-call behind e n)));
        }
