-- The proofs of `Places`, `Codes`, `RestoreNumbers` and `WriteCodes`.
use Prim.Native.Nat.{ℕ, zero, suc, ◌+◌, ◌*◌, ◌≤◌}
use native.Mathlib.Omega.{arith}
use mathlib.Core.Path.{◌≡◌, refl, sym, ap, ◌∙◌, subst}
use mathlib.Core.Bool.{Bool, true, false, ◌||◌, cond, false≢true}
use mathlib.Core.List.{[], ◌∷◌}
use Rattle.std.specs.Prelude.{Option, None, Some}
use lib.Dec.{eqb, ltb}
use lib.ListN.{length, drop, length-drop}
use lib.Seq.{drop-drop}
use borrow.Author.Tests.{ltb-true, ltb-false}
use Rattle.lists.specs.Bytes.{Bytes}
use Rattle.lists.specs.Lists.{every, is_in, written}
use Rattle.wire.specs.HashText.{parse_hash}
use Rattle.journal_record.specs.Records.{Fidelity, full, degraded, Park}
use Rattle.layout.specs.Layout.{size}
use Rattle.journal_record.specs.Reading.{layout_of, size_of, park_of, is_park}
use Rattle.journal_writer.specs.Writing as writing
use Rattle.journal_writer.specs.Writing.{form_in, bytes_of, in_layout, wrote, write}
use Rattle.gap_quarantine_journal.specs.Fold.{Folded, begin, refuse, step_of, Outcome, folded, refused, after, fold_from, room_for, fold_journal, fold_into}
use Rattle.gap_quarantine_journal.specs.Restore as restoring
use Rattle.gap_quarantine_journal.specs.Restore.{restored, frame_of, restore_degraded, restore_full, restore_as, restore_hash, restore_park, restore}
use Rattle.journal_exports.specs.Export.{turned_away, exported_as, exported}
use Rattle.journal_exports.specs.Writers.{code_of, exported_write}
use Rattle.journal_laws.specs.CutRule.{past, records_from, records, fold_of}
use Rattle.journal_laws.specs.Places.{Place, whole, in_record, last, Places, Code, done, away, Codes, RestoreNumber, RestoreNumbers, WriteCode, wrote_one, wrote_none, WriteCodes}
use Rattle.journal_laws.proofs.Steps.{AtRecord, unknown_mark, outside_layout, over_keys, Stepped, stops, refuses, reads, stepped}
use Rattle.journal_laws.proofs.Folds.{folds, folds-of}
use Rattle.journal_laws.proofs.KeyOrder.{fold-order}

-- ---- the fold

at-record : (n : ℕ) → AtRecord n → is_in n (10 ∷ 11 ∷ 12 ∷ []) ≡ true
unfolding is_in
at-record n unknown_mark = refl
at-record n outside_layout = refl
at-record n over_keys = refl

-- a refusal so many bytes behind the first record
data Refuses (k : ℕ) (bs : Bytes) (at : ℕ) (s : Folded) (n a : ℕ) : Type 0 where
  behind : (t : Folded) (d : ℕ) → AtRecord n → a ≡ at + d → d + 2 ≤ length bs →
      fold_of (records_from k bs at s) s at ≡ folded t a → step_of (drop d bs) t ≡ refuse n → Refuses k bs at s n a

fold-refuses : (k : ℕ) (bs : Bytes) (at : ℕ) (s : Folded) (n a : ℕ) → fold_from k bs at s ≡ refused n a → Refuses k bs at s n a
unfolding fold_from after records_from past fold_of
fold-refuses zero bs at s n a h = let z : ◌≡◌ {A = ℕ} 0 1 = cc in absurd (omega arith)
fold-refuses (suc k) bs at s n a h = go (stepped bs s) (λ w u. fold-refuses k (drop w bs) (at + w) u n a)
  where
    go : Stepped bs s → ((w : ℕ) (u : Folded) → fold_from k (drop w bs) (at + w) u ≡ refused n a → Refuses k (drop w bs) (at + w) u n a) → Refuses (suc k) bs at s n a
    go (stops e a cut) ih = let z : ◌≡◌ {A = ℕ} 0 1 = cc (rw e at h) in absurd (omega arith)
    go (refuses j r l e) ih =
        let q : j ≡ n = cc (rw e at h) in
        let p : at ≡ a = cc (rw e at h) in
        behind s 0 (subst AtRecord q r) (omega arith) l (rw e (ap (folded s) p)) (e ∙ ap refuse q)
    go (reads form u l c e cut) ih = further (ih (size_of form) u (rw e at h))
      where
        further : Refuses k (drop (size_of form) bs) (at + size_of form) u n a → Refuses (suc k) bs at s n a
        further (behind t d r q i f g) =
            let j = length-drop (size_of form) bs in
            behind t (size_of form + d) r (omega arith) (omega arith) (rw e f) (ap (λ (x : Bytes). step_of x t) (sym (drop-drop d (size_of form) bs)) ∙ g)

fold_end : (k : ℕ) (bs : Bytes) (at : ℕ) (s t : Folded) (end : ℕ) → fold_from k bs at s ≡ folded t end → end ≤ at + length bs
unfolding fold_from after
fold_end zero bs at s t end h = let e : at ≡ end = cc in omega arith
fold_end (suc k) bs at s t end h = go (stepped bs s) (λ w u. fold_end k (drop w bs) (at + w) u t end)
  where
    go : Stepped bs s → ((w : ℕ) (u : Folded) → fold_from k (drop w bs) (at + w) u ≡ folded t end → end ≤ at + w + length (drop w bs)) → end ≤ at + length bs
    go (stops e a cut) ih = let q : at ≡ end = cc (rw e at h) in omega arith
    go (refuses n r l e) ih = let z : ◌≡◌ {A = ℕ} 0 1 = cc (rw e at h) in absurd (omega arith)
    go (reads form u l c e cut) ih =
        let i = ih (size_of form) u (rw e at h) in
        let j = length-drop (size_of form) bs in
        omega arith

pub places : Places
unfolding fold_into fold_journal room_for size_of layout_of size records
places journal room n at h = sized (ltb 65536 (length journal)) refl h
  where
    outcome : length journal ≤ 65536 → (o : Outcome) → fold_from (length journal) journal 0 begin ≡ o → room_for room o ≡ refused n at → Place journal room n at
    outcome l (refused j a) e q = found (fold-refuses (length journal) journal 0 begin n at (e ∙ q))
      where
        found : Refuses (length journal) journal 0 begin n at → Place journal room n at
        found (behind t d r p i f g) =
            let b : at ≡ d = omega arith in
            in_record n t at (at-record n r) f (rw b g) (omega arith) l
    outcome l (folded t a) e q = roomy (ltb room (240 * length t.pending)) refl q
      where
        roomy : (b : Bool) → ltb room (240 * length t.pending) ≡ b → cond b (refused 13 a) (folded t a) ≡ refused n at → Place journal room n at
        roomy true p r =
            let x : 13 ≡ n = cc in
            let y : a ≡ at = cc in
            let o = fold-order (length journal) journal 0 t a e in
            subst (λ (i : ℕ). Place journal room i at) x
            (subst (Place journal room 13) y
            (last t a (folds-of journal 15360 t a (record { short = l; from = e; fitting = omega arith })) (ltb-true _ _ p)))
        roomy false p r = let z : ◌≡◌ {A = ℕ} 0 1 = cc in absurd (omega arith)

    sized : (b : Bool) → ltb 65536 (length journal) ≡ b → room_for room (cond b (refused 9 65536) (fold_from (length journal) journal 0 begin)) ≡ refused n at → Place journal room n at
    sized true e q =
        let x : 9 ≡ n = cc in
        let y : 65536 ≡ at = cc in
        subst (λ (i : ℕ). Place journal room i at) x (subst (Place journal room 9) y (whole (ltb-true _ _ e)))
    sized false e q = outcome (ltb-false 65536 (length journal) e) (fold_from (length journal) journal 0 begin) refl q

-- ---- the exported function

-- one of three is one of five
of-five : (a b c d e : Bool) → (b || (c || (d || false))) ≡ true → (a || (b || (c || (d || (e || false))))) ≡ true
of-five true b c d e h = refl
of-five false true c d e h = refl
of-five false false true d e h = refl
of-five false false false true e h = refl
of-five false false false false e h = absurd (false≢true h)

ending : (journal : Bytes) (room : ℕ) (s : Folded) (end : ℕ) → fold_into journal room ≡ folded s end → end ≤ 65536
ending journal room s end h =
    let f = folds journal room s end h in
    let l = fold_end (length journal) journal 0 begin s end f.from in
    omega arith

placed : (journal : Bytes) (room n at : ℕ) → Place journal room n at → Code (n + 256 * at)
unfolding is_in
placed journal room n at (whole l) = away 9 65536 refl (omega arith)
placed journal room n at (in_record j s a i f e l k) = away j a (of-five (eqb 9 j) (eqb 10 j) (eqb 11 j) (eqb 12 j) (eqb 13 j) i) (omega arith)
placed journal room n at (last s end f l) = away 13 end refl (ending journal 15360 s end f)

pub codes : Codes
unfolding exported exported_as turned_away is_in
codes journal out totals = go (fold_into journal (length out)) refl
  where
    go : (o : Outcome) → fold_into journal (length out) ≡ o → Code (exported_as o out totals).code
    go (refused n at) e = placed journal (length out) n at (places journal (length out) n at e)
    go (folded s end) e = sized (eqb (length totals) 40) refl
      where
        sized : (b : Bool) → eqb (length totals) 40 ≡ b → Code (exported_as (folded s end) out totals).code
        sized true q = rw q done
        sized false q = rw q (away 13 end refl (ending journal (length out) s end e))

-- ---- restore

restore-full : (p : Park) (hash : Bytes) (o : Option Bytes) (n : ℕ) → restore_full p hash o ≡ restoring.refused n → 16 ≡ n
unfolding restore_full
restore-full p hash None n h = cc
restore-full p hash (Some from) n h = go p.wire h
  where
    go : (b : Bool) → cond b (restored (frame_of p hash from p.chain_id p.gas)) (restoring.refused 16) ≡ restoring.refused n → 16 ≡ n
    go true q = cc
    go false q = cc

restore-degraded : (p : Park) (hash : Bytes) (o : Option Bytes) (n : ℕ) → restore_degraded p hash o ≡ restoring.refused n → 15 ≡ n
unfolding restore_degraded
restore-degraded p hash None n h = cc
restore-degraded p hash (Some sender) n h = cc

pub restores : RestoreNumbers
unfolding restore restore_park restore_hash restore_as is_in
restores bs n h = go (is_park bs) h
  where
    by : (f : Fidelity) (p : Park) (hash : Bytes) → restore_as f p hash ≡ restoring.refused n → RestoreNumber n
    by full p hash q = subst RestoreNumber (restore-full p hash p.from n q) refl
    by degraded p hash q = subst RestoreNumber (restore-degraded p hash p.sender n q) refl

    parsed : (o : Option Bytes) (p : Park) → restore_hash o p ≡ restoring.refused n → RestoreNumber n
    parsed None p q = let e : 14 ≡ n = cc in subst RestoreNumber e refl
    parsed (Some hash) p q = by p.fidelity p hash q

    go : (b : Bool) → cond b (restore_park (park_of bs)) (restoring.refused 11) ≡ restoring.refused n → RestoreNumber n
    go true q = parsed (parse_hash (park_of bs).text) (park_of bs) q
    go false q = let e : 11 ≡ n = cc in subst RestoreNumber e refl

-- ---- the writers

pub write-codes : WriteCodes
unfolding exported_write code_of write is_in
write-codes tests x out = go (every tests) (in_layout x) (ltb (length out) (size_of (form_in x)))
  where
    go : (a b c : Bool) → WriteCode (code_of (cond a (cond b (cond c (writing.turned_away 13 out) (record { answer = wrote (size_of (form_in x)); out = written (bytes_of x) out })) (writing.turned_away 11 out)) (writing.turned_away 11 out)).answer)
    go true true true = wrote_none 13 refl
    go true true false = wrote_one (form_in x)
    go true false c = wrote_none 11 refl
    go false b c = wrote_none 11 refl
