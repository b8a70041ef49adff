-- The proof of `CutRule`.
use Prim.Native.Nat.{ℕ, zero, suc, ◌+◌, ◌-◌, ◌≤◌, ◌<◌}
use native.Mathlib.Omega.{arith}
use mathlib.Core.Path.{◌≡◌, refl, sym, ◌∙◌}
use mathlib.Core.Bool.{Bool, true, false, cond}
use mathlib.Core.List.{List, [], ◌∷◌}
use lib.Dec.{leb}
use lib.ListN.{length, take, drop, length-take}
use borrow.Author.Tests.{leb-true, leb-false, le-leb, lt-leb}
use Rattle.lists.specs.Bytes.{Bytes}
use Rattle.lists.proofs.Parts.{drop-take}
use Rattle.journal_record.specs.Reading.{size_of}
use Rattle.gap_quarantine_journal.specs.Fold.{Folded, begin, unfinished, read, Outcome, folded, after, fold_from, fold_into}
use Rattle.journal_laws.specs.CutRule.{Past, past, records_from, records, whole_before, fold_of, CutRule}
use Rattle.journal_laws.proofs.Steps.{Stepped, stops, refuses, reads, stepped}
use Rattle.journal_laws.proofs.Folds.{fuel, folds, folds-of}
use Rattle.journal_laws.proofs.KeyOrder.{fold-order}

-- the fold of records is never a refusal
data Ends (o : Outcome) : Type 0 where
  ends : (s : Folded) (end : ℕ) → o ≡ folded s end → Ends o

fold_of-ends : (ps : List Past) (s : Folded) (at : ℕ) → Ends (fold_of ps s at)
unfolding fold_of
fold_of-ends [] s at = ends s at refl
fold_of-ends (p ∷ ps) s at = fold_of-ends ps p.state p.end

cut-fold : (k : ℕ) (bs : Bytes) (at m : ℕ) (s t : Folded) (end : ℕ) → fold_from k bs at s ≡ folded t end →
    fold_from k (take m bs) at s ≡ fold_of (whole_before (at + m) (records_from k bs at s)) s at
unfolding fold_from after fold_of whole_before records_from past
cut-fold zero bs at m s t end h = refl
cut-fold (suc k) bs at m s t end h = go (stepped bs s) (λ n j u. cut-fold k (drop n bs) (at + n) j u t end)
  where
    go : Stepped bs s → ((n j : ℕ) (u : Folded) → fold_from k (drop n bs) (at + n) u ≡ folded t end →
        fold_from k (take j (drop n bs)) (at + n) u ≡ fold_of (whole_before (at + n + j) (records_from k (drop n bs) (at + n) u)) u (at + n)) →
        fold_from (suc k) (take m bs) at s ≡ fold_of (whole_before (at + m) (records_from (suc k) bs at s)) s at
    go (stops e a cut) ih = rw (cut m, e)
    go (refuses n a l e) ih = let z : ◌≡◌ {A = ℕ} 0 1 = cc (rw e at h) in absurd (omega arith)
    go (reads form u l c e cut) ih = rw (cut m, e) (tested (leb (size_of form) m) refl)
      where
        tested : (b : Bool) → leb (size_of form) m ≡ b →
            after (cond b (read (size_of form) u) unfinished) s at (λ n v. fold_from k (drop n (take m bs)) (at + n) v)
            ≡ fold_of (whole_before (at + m) (record { end = at + size_of form; state = u } ∷ records_from k (drop (size_of form) bs) (at + size_of form) u)) s at
        tested true q =
            let i : size_of form ≤ m = leb-true (size_of form) m q in
            let g : at + size_of form + (m - size_of form) ≡ at + m = omega arith in
            rw (le-leb (at + size_of form) (at + m) (omega arith), drop-take (size_of form) m bs) (rw g at (ih (size_of form) (m - size_of form) u (rw e at h)))
        tested false q =
            let i : m < size_of form = leb-false (size_of form) m q in
            rw (lt-leb (at + size_of form) (at + m) (omega arith))

-- for a journal that folds with any output, cut with one that holds 64 records
module _ (journal : Bytes) (given : ℕ) (s : Folded) (end : ℕ) (h : fold_into journal given ≡ folded s end) (m : ℕ) where
  cut-from : fold_from (length (take m journal)) (take m journal) 0 begin ≡ fold_of (whole_before m (records journal)) begin 0
  unfolding records
  cut-from =
      let l = length-take m journal in
      let g : 0 + m ≡ m = omega arith in
      fuel (length (take m journal)) (length journal) (take m journal) 0 begin (omega arith) (omega arith)
      ∙ rw g at (cut-fold (length journal) journal 0 m begin s end (folds journal given s end h).from)

  cut-journal : (room : ℕ) → 15360 ≤ room → fold_into (take m journal) room ≡ fold_of (whole_before m (records journal)) begin 0
  cut-journal room r = go (fold_of-ends (whole_before m (records journal)) begin 0)
    where
      go : Ends (fold_of (whole_before m (records journal)) begin 0) → fold_into (take m journal) room ≡ fold_of (whole_before m (records journal)) begin 0
      go (ends t at e) =
          let l = length-take m journal in
          let a = folds journal given s end h in
          let o = fold-order (length (take m journal)) (take m journal) 0 t at (cut-from ∙ e) in
          folds-of (take m journal) room t at (record { short = omega arith; from = cut-from ∙ e; fitting = omega arith }) ∙ sym e

pub cut-rule : CutRule
cut-rule journal s end h m = cut-journal journal _ s end h m _ (omega arith)
