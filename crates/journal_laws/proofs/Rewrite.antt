-- The proof of `JournalAgain`.
use Prim.Native.Nat.{ℕ, zero, suc, ◌+◌, ◌-◌, ◌≤◌}
use native.Mathlib.Omega.{arith}
use mathlib.Core.Path.{◌≡◌, sym}
use mathlib.Core.Bool.{true}
use mathlib.Core.List.{List, [], ◌∷◌}
use lib.ListN.{length, take, drop}
use lib.Seq.{length-take-le, take-add}
use Rattle.lists.specs.Bytes.{Bytes}
use Rattle.lists.specs.Lists.{Each, collect}
use Rattle.lists.proofs.Parts.{each_take, each-drop}
use Rattle.wire.proofs.NumberLaws.{IsByte}
use Rattle.journal_record.specs.Reading.{Form, size_of}
use Rattle.journal_writer.specs.Writing.{Value, value_of, bytes_of, in_layout}
use Rattle.journal_writer.proofs.Again.{bytes-again, in-layout}
use Rattle.gap_quarantine_journal.specs.Fold.{Folded, begin, folded, after, fold_from}
use Rattle.journal_laws.specs.Rewriting.{value_then, values_from, values_of, JournalAgain}
use Rattle.journal_laws.proofs.Steps.{Here, Stepped, stops, refuses, reads, stepped}
use Rattle.journal_laws.proofs.Folds.{folds}

-- values that a record can hold, which written one after another are these bytes up to an end, counted from a place
record Again (bs : Bytes) (at end : ℕ) (xs : List Value) : Type 0 where
  pub behind : at ≤ end
  pub fit : Each (λ x. in_layout x ≡ true) xs
  pub same : collect bytes_of xs ≡ take (end - at) bs

none-again : (bs : Bytes) (at end : ℕ) → at ≡ end → Again bs at end []
unfolding collect
none-again bs at end e = let z : end - at ≡ 0 = omega arith in record { behind = omega arith; fit = tt; same = rw z }

one_again : (form : Form) (bs : Bytes) (at end : ℕ) (xs : List Value) → Each IsByte bs → Here form bs → Again (drop (size_of form) bs) (at + size_of form) end xs →
    Again bs at end (value_of form (take (size_of form) bs) ∷ xs)
unfolding collect
one_again form bs at end xs bytes h r =
    let n = size_of form in
    let b = each_take IsByte n bs bytes in
    let l = length-take-le n bs h.room in
    let f = r.behind in
    let z : end - at ≡ n + (end - (at + n)) = omega arith in
    record {
      behind = omega arith;
      fit = (in-layout form (take n bs) b h.accepts, r.fit);
      same = rw (bytes-again form (take n bs) b h.accepts l, r.same, z) (sym (take-add n (end - (at + n)) bs));
    }

again-from : (k : ℕ) (bs : Bytes) (at : ℕ) (s t : Folded) (end : ℕ) → Each IsByte bs → fold_from k bs at s ≡ folded t end → Again bs at end (values_from k bs)
unfolding fold_from after values_from value_then
again-from zero bs at s t end bytes h = none-again bs at end cc
again-from (suc k) bs at s t end bytes h = go (stepped bs s) (λ n u. again-from k (drop n bs) (at + n) u t end (each-drop IsByte n bs bytes))
  where
    go : Stepped bs s → ((n : ℕ) (u : Folded) → fold_from k (drop n bs) (at + n) u ≡ folded t end → Again (drop n bs) (at + n) end (values_from k (drop n bs))) →
        Again bs at end (values_from (suc k) bs)
    go (stops e a cut) ih = rw a (none-again bs at end (cc (rw e at h)))
    go (refuses n a l e) ih = let z : ◌≡◌ {A = ℕ} 0 1 = cc (rw e at h) in absurd (omega arith)
    go (reads form u l c e cut) ih = rw l.is (one_again form bs at end (values_from k (drop (size_of form) bs)) bytes l (ih (size_of form) u (rw e at h)))

pub journal-again : JournalAgain
unfolding values_of
journal-again journal room s end bytes h =
    let r = again-from (length journal) journal 0 begin s end bytes (folds journal room s end h).from in
    let z : end - 0 ≡ end = omega arith in
    (r.fit, rw z at r.same)
