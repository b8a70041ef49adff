-- What is printed of a file, where the buffer holds one byte more than a journal may have.
use Prim.Native.Nat.{ℕ, ◌*◌, ◌≤◌, ◌<◌, min}
use native.Mathlib.Omega.{arith}
use mathlib.Core.Path.{◌≡◌, refl, ap, sym, ◌∙◌}
use mathlib.Core.Bool.{Bool, true, false, cond}
use lib.Dec.{eqb, ltb}
use lib.ListN.{length, take, replicate, length-take, length-replicate}
use borrow.Author.Tests.{lt-ltb, le-ltb, ltb-true, ltb-false}
use Rattle.lists.specs.Bytes.{Bytes}
use Rattle.lists.specs.Lists.{collect, written}
use Rattle.wire.specs.Numbers.{digits}
use Rattle.layout.specs.Layout.{size}
use Rattle.journal_record.specs.Reading.{layout_of, size_of}
use Rattle.gap_quarantine_journal.specs.Fold.{Outcome, folded, refused, fold_journal, room_for, fold_into, output}
use Rattle.journal_exports.specs.Export.{Exported, turned_away, five_totals, exported_as, exported}
use Rattle.journal_laws.proofs.KeyOrder.{keys}
use Rattle.fold_output.specs.Lines.{refusal_line, fold_line, fold_of, journal_line, fold_output}

-- no fold leaves more than 64 records, so more room than they take changes nothing
roomier : (journal : Bytes) (room : ℕ) → 15360 ≤ room → fold_into journal room ≡ fold_into journal 15360
unfolding fold_into room_for size_of layout_of size
roomier journal room h = go (fold_journal journal) refl
  where
    go : (o : Outcome) → fold_journal journal ≡ o → room_for room o ≡ room_for 15360 o
    go (refused n at) e = refl
    go (folded s end) e =
        let into : fold_into journal (240 * length s.pending) ≡ folded s end = rw (e, le-ltb (240 * length s.pending) (240 * length s.pending) (omega arith)) in
        let few : length s.pending ≤ 64 = (keys journal (240 * length s.pending) s end into).1 in
        rw (le-ltb room (240 * length s.pending) (omega arith), le-ltb 15360 (240 * length s.pending) (omega arith))

-- what is returned, and written as totals, does not depend on the output that is lent
lent : (o : Outcome) (out out' totals : Bytes) → fold_line (exported_as o out totals).code (exported_as o out totals).totals ≡ fold_line (exported_as o out' totals).code (exported_as o out' totals).totals
unfolding exported_as turned_away
lent (refused n at) out out' totals = refl
lent (folded s end) out out' totals = go (eqb (length totals) 40)
  where
    ended : Bool → Bytes → Exported
    ended b o = cond b (record { code = 0; out = written (output s.pending) o; totals = collect (digits 8) (five_totals s end) }) (turned_away 13 end o totals)

    go : (b : Bool) → fold_line (ended b out).code (ended b out).totals ≡ fold_line (ended b out').code (ended b out').totals
    go true = refl
    go false = refl

-- the line of what the exported function returned and wrote, where it was lent room for 64 records
pub line_of : (journal out : Bytes) (e : Exported) → 15360 ≤ length out → e ≡ exported journal out (replicate 40 0) → fold_line e.code e.totals ≡ journal_line journal
unfolding journal_line fold_of exported
line_of journal out e h is =
    let room : Bytes = replicate 15360 0 in
    let totals : Bytes = replicate 40 0 in
    let same : fold_into journal (length out) ≡ fold_into journal (length room) =
    roomier journal (length out) h ∙ sym (roomier journal (length room) (rw (length-replicate {A = ℕ} 15360 0) (omega arith))) in
    ap (λ (x : Exported). fold_line x.code x.totals) is
    ∙ ap (λ (o : Outcome). fold_line (exported_as o out totals).code (exported_as o out totals).totals) same
    ∙ lent (fold_into journal (length room)) out room totals

-- a journal over the limit is refused as a whole
over : (journal : Bytes) → 65536 < length journal → journal_line journal ≡ refusal_line 9 65536
unfolding journal_line fold_of exported fold_into fold_journal room_for exported_as turned_away fold_line
over journal h = rw (lt-ltb 65536 (length journal) h)

-- so it is enough to fold what the buffer holds
pub printed : (n k : ℕ) (read : Bytes) → 65536 < length read → k ≡ min n (length read) → journal_line (take k read) ≡ fold_output n read
unfolding fold_output
printed n k read long e = go (ltb 65536 n) refl
  where
    go : (b : Bool) → ltb 65536 n ≡ b → journal_line (take k read) ≡ cond b (refusal_line 9 65536) (journal_line (take n read))
    go true t = over (take k read) (rw (length-take k read) (omega (arith, ltb-true 65536 n t)))
    go false t = let same : k ≡ n = omega (arith, ltb-false 65536 n t) in ap (λ (j : ℕ). journal_line (take j read)) same
