-- What the exported functions return, and what they leave in the slices lent to them.
use Rattle.std.specs.Prelude.{ℕ, ◌+◌, ◌*◌, cond, List, [], ◌∷◌, eqb, length}
use Rattle.lists.specs.Bytes.{Bytes}
use Rattle.lists.specs.Lists.{collect, written}
use Rattle.wire.specs.Numbers.{digits}
use Rattle.layout.specs.Layout.{join}
use Rattle.store_rules.specs.Frames.{Frame}
use Rattle.gap_quarantine_journal.specs.Fold.{Folded, Outcome, folded, refused, fold_into, output}
use Rattle.gap_quarantine_journal.specs.Restore as restore
use Rattle.gap_quarantine_journal.specs.Restore.{Restored, restored}

-- ---- the fold

pub record Exported : Type 0 where
  pub code : ℕ
  pub out : Bytes
  pub totals : Bytes

-- number + 256 × offset, and nothing written
unfoldable pub turned_away : ℕ → ℕ → Bytes → Bytes → Exported
turned_away n at out totals = record { code = n + 256 * at; out = out; totals = totals }

-- pending, skipped, migrated, degraded, end
unfoldable pub five_totals : Folded → ℕ → List ℕ
five_totals s end = length s.pending ∷ s.counts.skipped ∷ s.counts.migrated ∷ s.counts.degraded ∷ end ∷ []

-- 13, last, if the second slice is not 40 bytes
unfoldable pub exported_as : Outcome → Bytes → Bytes → Exported
exported_as (refused n at) out totals = turned_away n at out totals
exported_as (folded s end) out totals =
    cond (eqb (length totals) 40)
    (record { code = 0; out = written (output s.pending) out; totals = collect (digits 8) (five_totals s end) })
    (turned_away 13 end out totals)

unfoldable pub exported : Bytes → Bytes → Bytes → Exported
exported journal out totals = exported_as (fold_into journal (length out)) out totals

-- ---- restore

pub record ExportedFrame : Type 0 where
  pub code : ℕ
  pub frame : Bytes

-- hash, from, expected, claim, chain_id, gas, ticket
unfoldable pub frame_bytes : Frame → Bytes
frame_bytes f =
    join (f.hash ∷ f.from ∷ digits 8 f.expected ∷ digits 8 f.claim ∷ digits 8 f.chain_id ∷ digits 8 f.gas ∷ digits 8 f.ticket ∷ [])

-- 13, last, if the slice is not 92 bytes; a refusal writes nothing
unfoldable pub exported_frame_as : Restored → Bytes → ExportedFrame
exported_frame_as (restore.refused n) frame = record { code = n; frame = frame }
exported_frame_as (restored f) frame = cond (eqb (length frame) 92) (record { code = 0; frame = frame_bytes f }) (record { code = 13; frame = frame })

unfoldable pub exported_frame : Bytes → Bytes → ExportedFrame
exported_frame bytes frame = exported_frame_as (restore.restore bytes) frame
