-- The exported functions, way by way.
use Prim.Native.Nat.{ℕ, ◌+◌, ◌*◌, ◌≤◌, ◌<◌}
use native.Mathlib.Omega.{arith}
use mathlib.Core.Path.{◌≡◌, sym, ap, ◌∙◌}
use Rattle.std.specs.Prelude.{Ok, Err}
use mathlib.Core.List.{List, [], ◌∷◌, map, append_assoc}
use lib.ListN.{length, take, drop, length-map}
use lib.Seq.{paste, take_all, drop-drop}
use borrow.Author.Tests.{lt-ltb, le-ltb, eq-eqb, ne_eqb}
use Rattle.lists.specs.Bytes.{Bytes}
use Rattle.lists.specs.Lists.{collect, written, written_at}
use Rattle.wire.specs.Numbers.{digits}
use Rattle.refusal.specs.Numbers.{refusal_number}
use Rattle.refusal.specs.declared.Refusal.{Refusal}
use Rattle.refusal.specs.declared.Refusal.TheVariants.{WideGap, StoreFull, ManyKnown, BadContent, ShortSlice, ManyPredecessors, BadGuardContent, GuardsFull, LongJournal, UnknownMark, BadRecord, PendingFull, ShortOutput, BadHashText, NoSender, NoWire, BadSweepLists, BadNonceCounts, BadTrace}
use Rattle.layout.specs.Layout.{size}
use Rattle.journal_record.specs.Reading.{layout_of, size_of}
use Rattle.journal_record.specs.View.{park_seen}
use Rattle.store_rules.specs.View.{frame_of}
use Rattle.gap_quarantine_journal.specs.Fold.{room_for, fold_journal, fold_into, output}
use Rattle.gap_quarantine_journal.specs.Restore.{restore}
use Rattle.gap_quarantine_journal.specs.View.{parks_seen, outcome_seen, restored_seen}
use Rattle.gap_quarantine_journal.specs.declared.fold.FoldedJournal.{FoldedJournal}
use Rattle.gap_quarantine_journal.specs.declared.fold.RefusedFold.{RefusedFold}
use Rattle.journal_record.specs.declared.ParkRecord.{ParkRecord}
use Rattle.store_rules.specs.declared.ParkedFrame.{ParkedFrame}
use Rattle.journal_exports.specs.Export.{turned_away, five_totals, exported_as, exported, frame_bytes, exported_frame_as, exported_frame}

-- ---- a refusal's number

pub number_small : (x : Refusal) → refusal_number x ≤ 19
number_small WideGap = omega arith
number_small StoreFull = omega arith
number_small ManyKnown = omega arith
number_small BadContent = omega arith
number_small ShortSlice = omega arith
number_small ManyPredecessors = omega arith
number_small BadGuardContent = omega arith
number_small GuardsFull = omega arith
number_small LongJournal = omega arith
number_small UnknownMark = omega arith
number_small BadRecord = omega arith
number_small PendingFull = omega arith
number_small ShortOutput = omega arith
number_small BadHashText = omega arith
number_small NoSender = omega arith
number_small NoWire = omega arith
number_small BadSweepLists = omega arith
number_small BadNonceCounts = omega arith
number_small BadTrace = omega arith

-- ---- what is written

pub paste-at : (d : List ℕ) (at : ℕ) (s : List ℕ) (n : ℕ) → length s ≡ n → paste d at s n ≡ written_at at s d
paste-at d at s n e = rw (take_all n s (omega arith), append_assoc (take at d) s (drop (at + n) d), drop-drop (length s) at d, e)

-- ---- the fold's ways

module _ (j out totals : Bytes) where
  pub was-refused : (r : RefusedFold) → outcome_seen (Err r) ≡ fold_journal j → turned_away (refusal_number r.refusal) r.at out totals ≡ exported j out totals
  unfolding exported fold_into room_for exported_as
  was-refused r e = rw (← e)

  module _ (f : FoldedJournal) (e : outcome_seen (Ok f) ≡ fold_journal j) (parks : List ParkRecord) (seen : map park_seen parks ≡ parks_seen f.pending) where
    count : length (parks_seen f.pending) ≡ length parks
    count = ap length (sym seen) ∙ length-map parks park_seen

    pub no_room : length out < 240 * length parks → turned_away 13 f.end out totals ≡ exported j out totals
    unfolding exported fold_into room_for exported_as size_of layout_of size
    no_room r =
        let s : length out < 240 * length (parks_seen f.pending) = rw count r in
        rw (← e, lt-ltb (length out) (240 * length (parks_seen f.pending)) s)

    module _ (r : 240 * length parks ≤ length out) where
      room : 240 * length (parks_seen f.pending) ≤ length out
      room = rw count r

      pub no-totals : (length totals ≡ 40 → ⊥) → turned_away 13 f.end out totals ≡ exported j out totals
      unfolding exported fold_into room_for exported_as size_of layout_of size
      no-totals n = rw (← e, le-ltb (length out) (240 * length (parks_seen f.pending)) room, ne_eqb (length totals) 40 n)

      pub went : length totals ≡ 40 → (out' totals' : Bytes) → out' ≡ written (output (map park_seen parks)) out →
          totals' ≡ collect (digits 8) (length parks ∷ f.totals.skipped ∷ f.totals.migrated ∷ f.totals.degraded ∷ f.end ∷ []) →
          record { code = 0; out = out'; totals = totals' } ≡ exported j out totals
      unfolding exported fold_into room_for exported_as five_totals size_of layout_of size
      went n out' totals' p q =
          rw (← e, le-ltb (length out) (240 * length (parks_seen f.pending)) room, eq-eqb (length totals) 40 n, count, p, q, seen)

-- ---- restore's ways

module _ (bs frame : Bytes) where
  pub frame_refused : (x : Refusal) → restored_seen (Err x) ≡ restore bs → record { code = refusal_number x; frame = frame } ≡ exported_frame bs frame
  unfolding exported_frame exported_frame_as
  frame_refused x e = rw (← e)

  module _ (f : ParkedFrame) (e : restored_seen (Ok f) ≡ restore bs) where
    pub frame-short : (length frame ≡ 92 → ⊥) → record { code = 13; frame = frame } ≡ exported_frame bs frame
    unfolding exported_frame exported_frame_as
    frame-short n = rw (← e, ne_eqb (length frame) 92 n)

    pub frame-went : length frame ≡ 92 → (frame' : Bytes) → frame' ≡ frame_bytes (frame_of f) → record { code = 0; frame = frame' } ≡ exported_frame bs frame
    unfolding exported_frame exported_frame_as
    frame-went n frame' w = rw (← e, eq-eqb (length frame) 92 n, w)
