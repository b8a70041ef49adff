-- Document 01's line of a fold, and what is printed of a file, as the texts that are put one by one.
use Rattle.std.specs.Prelude.{ℕ, ◌/◌, ◌%◌, cond, List, [], ◌∷◌, ◌++◌, eqb, ltb, take, drop, replicate}
use Rattle.lists.specs.Bytes.{Bytes}
use Rattle.wire.specs.Numbers.{num}
use Rattle.journal_exports.specs.Export.{Exported, exported}
use Rattle.console.specs.Waiting.{counted}

-- refused R at OFFSET
unfoldable pub refusal_line : ℕ → ℕ → List Bytes
refusal_line number offset =
    counted (114 ∷ 101 ∷ 102 ∷ 117 ∷ 115 ∷ 101 ∷ 100 ∷ []) number
    ++ counted (32 ∷ 97 ∷ 116 ∷ []) offset
    ++ ((10 ∷ []) ∷ [])

-- the total that stands at a place
unfoldable pub total : Bytes → ℕ → ℕ
total totals at = num (take 8 (drop at totals))

-- pending N skipped N migrated N degraded N end N
unfoldable pub totals_line : Bytes → List Bytes
totals_line totals =
    counted (112 ∷ 101 ∷ 110 ∷ 100 ∷ 105 ∷ 110 ∷ 103 ∷ []) (total totals 0)
    ++ counted (32 ∷ 115 ∷ 107 ∷ 105 ∷ 112 ∷ 112 ∷ 101 ∷ 100 ∷ []) (total totals 8)
    ++ counted (32 ∷ 109 ∷ 105 ∷ 103 ∷ 114 ∷ 97 ∷ 116 ∷ 101 ∷ 100 ∷ []) (total totals 16)
    ++ counted (32 ∷ 100 ∷ 101 ∷ 103 ∷ 114 ∷ 97 ∷ 100 ∷ 101 ∷ 100 ∷ []) (total totals 24)
    ++ counted (32 ∷ 101 ∷ 110 ∷ 100 ∷ []) (total totals 32)
    ++ ((10 ∷ []) ∷ [])

-- what the exported function returned, 0 or a refusal, and the totals that it wrote
unfoldable pub fold_line : ℕ → Bytes → List Bytes
fold_line code totals = cond (eqb code 0) (totals_line totals) (refusal_line (code % 256) (code / 256))

-- the fold of a journal into an output of 15,360 bytes
unfoldable pub fold_of : Bytes → Exported
fold_of journal = exported journal (replicate 15360 0) (replicate 40 0)

unfoldable pub journal_line : Bytes → List Bytes
journal_line journal = fold_line (fold_of journal).code (fold_of journal).totals

-- what is printed where n bytes were read, and these are the first of them: more than 65,536 are refused, whatever they are
unfoldable pub fold_output : ℕ → Bytes → List Bytes
fold_output n first = cond (ltb 65536 n) (refusal_line 9 65536) (journal_line (take n first))
