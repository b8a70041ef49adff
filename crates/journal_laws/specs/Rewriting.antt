-- A journal's records, each read to its value and written again: `JournalAgain`.
use Rattle.std.specs.Prelude.{ℕ, zero, suc, ◌≡◌, true, cond, List, [], ◌∷◌, ltb, length, take, drop}
use Rattle.std.specs.Prelude.{Option, None, Some}
use Rattle.lists.specs.Bytes.{Bytes}
use Rattle.lists.specs.Lists.{Each, collect}
use Rattle.journal_record.specs.Reading.{Form, form_of, size_of, accepted}
use Rattle.journal_writer.specs.Writing.{Value, value_of, bytes_of, in_layout}
use Rattle.gap_quarantine_journal.specs.Fold.{Folded, folded, fold_into}
use Rattle.journal_laws.specs.Refolding.{AllBytes}

-- the form of the record that bytes begin with, if it is whole and accepted
unfoldable pub whole_form : Option Form → Bytes → Option Form
whole_form None bs = None
whole_form (Some form) bs = cond (ltb (length bs) (size_of form)) None (cond (accepted form (take (size_of form) bs)) (Some form) None)

unfoldable pub form_at : Bytes → Option Form
form_at bs = cond (ltb (length bs) 2) None (whole_form (form_of (take 2 bs)) bs)

unfoldable pub value_then : Option Form → Bytes → (Bytes → List Value) → List Value
value_then None bs next = []
value_then (Some form) bs next = value_of form (take (size_of form) bs) ∷ next (drop (size_of form) bs)

-- the values of at most k records
unfoldable pub values_from : ℕ → Bytes → List Value
values_from zero bs = []
values_from (suc k) bs = value_then (form_at bs) bs (values_from k)

unfoldable pub values_of : Bytes → List Value
values_of journal = values_from (length journal) journal

-- For a journal that folds, a record can hold each of its records' values, and these, written one after another, are the journal
-- up to the end that the fold answers.
abbrev pub JournalAgain : Type 0
JournalAgain =
    (journal : Bytes) (room : ℕ) (s : Folded) (end : ℕ) → AllBytes journal → fold_into journal room ≡ folded s end →
    Each (λ x. in_layout x ≡ true) (values_of journal) × (collect bytes_of (values_of journal) ≡ take end journal)
