-- Where a call is turned away, and with which numbers: `Places` of the fold, `Codes` of the exported one, `RestoreNumbers` of restore,
-- `WriteCodes` of the exported writers.
use Rattle.std.specs.Prelude.{ℕ, ◌+◌, ◌*◌, ◌≤◌, ◌<◌, ◌≡◌, Bool, true, List, [], ◌∷◌, length, drop}
use Rattle.lists.specs.Bytes.{Bytes}
use Rattle.lists.specs.Lists.{is_in}
use Rattle.journal_record.specs.Reading.{Form, park, size_of}
use Rattle.journal_writer.specs.Writing.{Value}
use Rattle.gap_quarantine_journal.specs.Fold.{Folded, begin, refuse, step_of, folded, refused, fold_into}
use Rattle.gap_quarantine_journal.specs.Restore as restoring
use Rattle.gap_quarantine_journal.specs.Restore.{restore}
use Rattle.journal_exports.specs.Export.{exported}
use Rattle.journal_exports.specs.Writers.{exported_write}
use Rattle.journal_laws.specs.CutRule.{records, fold_of}

-- the number and the offset of a fold's refusal
pub data Place (journal : Bytes) (room : ℕ) : ℕ → ℕ → Type 0 where
  -- 9: the input's limit
  whole : 65536 < length journal → Place journal room 9 65536
  -- 10, 11, 12: the first byte of a record, where the records read before it end
  in_record : (n : ℕ) (s : Folded) (at : ℕ) → is_in n (10 ∷ 11 ∷ 12 ∷ []) ≡ true → fold_of (records journal) begin 0 ≡ folded s at →
      step_of (drop at journal) s ≡ refuse n → at < length journal → length journal ≤ 65536 → Place journal room n at
  -- 13: the end
  last : (s : Folded) (end : ℕ) → fold_into journal 15360 ≡ folded s end → room < size_of park * length s.pending → Place journal room 13 end

abbrev pub Places : Type 0
Places = (journal : Bytes) (room n at : ℕ) → fold_into journal room ≡ refused n at → Place journal room n at

-- 0, or the number of a refusal and its offset
pub data Code : ℕ → Type 0 where
  done : Code 0
  away : (n at : ℕ) → is_in n (9 ∷ 10 ∷ 11 ∷ 12 ∷ 13 ∷ []) ≡ true → at ≤ 65536 → Code (n + 256 * at)

abbrev pub Codes : Type 0
Codes = (journal out totals : Bytes) → Code (exported journal out totals).code

-- the numbers of restore
abbrev pub RestoreNumber : ℕ → Type 0
RestoreNumber n = is_in n (11 ∷ 14 ∷ 15 ∷ 16 ∷ []) ≡ true

abbrev pub RestoreNumbers : Type 0
RestoreNumbers = (bs : Bytes) (n : ℕ) → restore bs ≡ restoring.refused n → RestoreNumber n

-- of a writer: 256 times a record's length, or 11, or 13
pub data WriteCode : ℕ → Type 0 where
  wrote_one : (form : Form) → WriteCode (256 * size_of form)
  wrote_none : (n : ℕ) → is_in n (11 ∷ 13 ∷ []) ≡ true → WriteCode n

abbrev pub WriteCodes : Type 0
WriteCodes = (tests : List Bool) (x : Value) (out : Bytes) → WriteCode (exported_write tests x out).code
