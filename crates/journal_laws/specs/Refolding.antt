-- What a fold writes out: folded again it gives the same pending records (`Refolding`), and none of them is refused with 16 by
-- restore (`NoSixteen`).
use Rattle.std.specs.Prelude.{ℕ, ◌<◌, ◌≡◌, length}
use Rattle.lists.specs.Bytes.{Bytes}
use Rattle.lists.specs.Lists.{Each}
use Rattle.journal_writer.specs.Writing.{park_bytes}
use Rattle.gap_quarantine_journal.specs.Fold.{Folded, begin, folded, fold_into, output}
use Rattle.gap_quarantine_journal.specs.Restore.{refused, restore_park, restore}

-- numbers that fit in bytes
abbrev pub AllBytes : Bytes → Type 0
AllBytes = Each (λ b. b < 256)

-- The totals start again from 0, and the end is the output's length.
abbrev pub Refolding : Type 0
Refolding =
    (journal : Bytes) (room : ℕ) (s : Folded) (end : ℕ) → AllBytes journal → fold_into journal room ≡ folded s end →
    fold_into (output s.pending) room ≡ folded (record { pending = s.pending; counts = begin.counts }) (length (output s.pending))

abbrev pub NoSixteen : Type 0
NoSixteen =
    (journal : Bytes) (room : ℕ) (s : Folded) (end : ℕ) → AllBytes journal → fold_into journal room ≡ folded s end →
    Each (λ p. (restore (park_bytes p) ≡ restore_park p) × (restore_park p ≡ refused 16 → ⊥)) s.pending
