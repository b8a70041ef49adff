-- The keys that a fold leaves, `Keys`: in byte order, none twice, at most 64.
use Rattle.std.specs.Prelude.{ℕ, ◌≤◌, ◌≡◌, List, length}
use Rattle.lists.specs.Bytes.{Bytes, Before}
use Rattle.lists.specs.Lists.{Pairwise}
use Rattle.journal_record.specs.Records.{Park}
use Rattle.gap_quarantine_journal.specs.Fold.{Folded, folded, fold_into}

-- each key before the later ones
abbrev pub Ascending : List Park → Type 0
Ascending = Pairwise (λ (p q : Park). Before p.text q.text)

abbrev pub Keys : Type 0
Keys =
    (journal : Bytes) (room : ℕ) (s : Folded) (end : ℕ) → fold_into journal room ≡ folded s end →
    Ascending s.pending × (length s.pending ≤ 64)
