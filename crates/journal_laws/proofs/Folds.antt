-- What holds of every fold: what each change keeps, and how many records it may read.
use Prim.Native.Nat.{ℕ, zero, suc, ◌+◌, ◌*◌, ◌≤◌, ◌<◌}
use native.Mathlib.Omega.{arith}
use mathlib.Core.Path.{◌≡◌, refl, sym, ◌∙◌, subst}
use mathlib.Core.Bool.{Bool, true, false, cond}
use mathlib.Core.List.{List}
use lib.Dec.{ltb}
use lib.ListN.{length, take, drop, length-drop}
use borrow.Author.Tests.{ltb-false, le-ltb}
use Rattle.lists.specs.Bytes.{Bytes}
use Rattle.journal_record.specs.Records.{Park}
use Rattle.layout.specs.Layout.{size}
use Rattle.journal_record.specs.Reading.{layout_of, size_of}
use Rattle.gap_quarantine_journal.specs.Fold.{Folded, begin, Outcome, folded, refused, after, fold_from, room_for, fold_journal, fold_into}
use Rattle.journal_laws.proofs.Steps.{Change, at-least-ten, Stepped, stops, refuses, reads, stepped, step-short}

-- ---- a property of bytes, for all their parts, and one of the pending set, which every change keeps

module _ (Q : Bytes → Type 0) (taking : (n : ℕ) (bs : Bytes) → Q bs → Q (take n bs)) (dropping : (n : ℕ) (bs : Bytes) → Q bs → Q (drop n bs))
    (P : List Park → Type 0) (keeps : (bs : Bytes) (ps qs : List Park) → Q bs → Change bs ps qs → P ps → P qs) where
  pub fold-keeps : (k : ℕ) (bs : Bytes) (at : ℕ) (s : Folded) (t : Folded) (end : ℕ) → Q bs → P s.pending →
      fold_from k bs at s ≡ folded t end → P t.pending
  unfolding fold_from after
  fold-keeps zero bs at s t end q p h = let e : s ≡ t = cc in subst (λ (x : Folded). P x.pending) e p
  fold-keeps (suc k) bs at s t end q p h = go (stepped bs s) (λ n u. fold-keeps k (drop n bs) (at + n) u t end (dropping n bs q))
    where
      go : Stepped bs s → ((n : ℕ) (u : Folded) → P u.pending → fold_from k (drop n bs) (at + n) u ≡ folded t end → P t.pending) → P t.pending
      go (stops e a cut) ih = let d : s ≡ t = cc (rw e at h) in subst (λ (x : Folded). P x.pending) d p
      go (refuses n a l e) ih = let z : ◌≡◌ {A = ℕ} 0 1 = cc (rw e at h) in absurd (omega arith)
      go (reads form u l c e cut) ih = ih (size_of form) u (keeps _ _ _ (taking (size_of form) bs q) c p) (rw e at h)

-- ---- the number of records that a fold may read does not show, if it is at least the number of bytes

pub fold-none : (k : ℕ) (bs : Bytes) (at : ℕ) (s : Folded) → length bs < 2 → fold_from k bs at s ≡ folded s at
unfolding fold_from after
fold-none zero bs at s h = refl
fold-none (suc k) bs at s h = rw (step-short bs s h)

pub fuel : (k j : ℕ) (bs : Bytes) (at : ℕ) (s : Folded) → length bs ≤ k → length bs ≤ j → fold_from k bs at s ≡ fold_from j bs at s
unfolding fold_from after
fuel zero j bs at s h i = sym (fold-none j bs at s (omega arith))
fuel (suc k) zero bs at s h i = fold-none (suc k) bs at s (omega arith)
fuel (suc k) (suc j) bs at s h i = go (stepped bs s) (λ n u. fuel k j (drop n bs) (at + n) u)
  where
    go : Stepped bs s → ((n : ℕ) (u : Folded) → length (drop n bs) ≤ k → length (drop n bs) ≤ j → fold_from k (drop n bs) (at + n) u ≡ fold_from j (drop n bs) (at + n) u) →
        fold_from (suc k) bs at s ≡ fold_from (suc j) bs at s
    go (stops e a cut) ih = rw e
    go (refuses n a l e) ih = rw e
    go (reads form u l c e cut) ih =
        let t = at-least-ten form in
        let d = length-drop (size_of form) bs in
        rw e (ih (size_of form) u (omega arith) (omega arith))

-- ---- a journal that folds

pub record FoldsWithin (journal : Bytes) (room : ℕ) (s : Folded) (end : ℕ) : Type 0 where
  pub short : length journal ≤ 65536
  pub from : fold_from (length journal) journal 0 begin ≡ folded s end
  pub fitting : 240 * length s.pending ≤ room

pub folds : (journal : Bytes) (room : ℕ) (s : Folded) (end : ℕ) → fold_into journal room ≡ folded s end → FoldsWithin journal room s end
unfolding fold_into fold_journal room_for size_of layout_of size
folds journal room s end h = sized (ltb 65536 (length journal)) refl h
  where
    outcome : length journal ≤ 65536 → (o : Outcome) → fold_from (length journal) journal 0 begin ≡ o → room_for room o ≡ folded s end → FoldsWithin journal room s end
    outcome l (refused n at) e q = let z : ◌≡◌ {A = ℕ} 0 1 = cc in absurd (omega arith)
    outcome l (folded t at) e q = roomy (ltb room (240 * length t.pending)) refl q
      where
        roomy : (b : Bool) → ltb room (240 * length t.pending) ≡ b → cond b (refused 13 at) (folded t at) ≡ folded s end → FoldsWithin journal room s end
        roomy true p r = let z : ◌≡◌ {A = ℕ} 0 1 = cc in absurd (omega arith)
        roomy false p r =
            let d : t ≡ s = cc in
            record { short = l; from = e ∙ r; fitting = subst (λ (x : Folded). 240 * length x.pending ≤ room) d (ltb-false _ _ p) }

    sized : (b : Bool) → ltb 65536 (length journal) ≡ b → room_for room (cond b (refused 9 65536) (fold_from (length journal) journal 0 begin)) ≡ folded s end → FoldsWithin journal room s end
    sized true e q = let z : ◌≡◌ {A = ℕ} 0 1 = cc in absurd (omega arith)
    sized false e q = outcome (ltb-false 65536 (length journal) e) (fold_from (length journal) journal 0 begin) refl q

pub folds-of : (journal : Bytes) (room : ℕ) (s : Folded) (end : ℕ) → FoldsWithin journal room s end → fold_into journal room ≡ folded s end
unfolding fold_into fold_journal room_for size_of layout_of size
folds-of journal room s end f =
    rw (le-ltb 65536 (length journal) f.short, f.from, le-ltb room (240 * length s.pending) f.fitting)
