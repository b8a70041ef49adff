-- Request 2027-06's lines of a trace and request 2027-07's totals below them, as the texts that are put one by one.
use Rattle.std.specs.Prelude.{ℕ, suc, cond, List, [], ◌∷◌, ◌++◌, ltb, take}
use Rattle.lists.specs.Bytes.{Bytes}
use Rattle.store_rules.specs.Totals.{Totals}
use Rattle.trace_format.specs.Traces.{Trace, read_trace, lines, trace_totals}
use Rattle.console.specs.Waiting.{decimal, counted}

-- a place, a space and a number
unfoldable pub placed_line : ℕ → ℕ → List Bytes
placed_line place n = decimal place ∷ (32 ∷ []) ∷ decimal n ∷ (10 ∷ []) ∷ []

-- a line for each number, from this place on
unfoldable pub placed_lines : ℕ → List ℕ → List Bytes
placed_lines place [] = []
placed_lines place (n ∷ ns) = placed_line place n ++ placed_lines (suc place) ns

-- accepted N held N rescued N dead N evicted N
unfoldable pub totals_line : Totals → List Bytes
totals_line totals =
    counted (97 ∷ 99 ∷ 99 ∷ 101 ∷ 112 ∷ 116 ∷ 101 ∷ 100 ∷ []) totals.accepted
    ++ counted (32 ∷ 104 ∷ 101 ∷ 108 ∷ 100 ∷ []) totals.held
    ++ counted (32 ∷ 114 ∷ 101 ∷ 115 ∷ 99 ∷ 117 ∷ 101 ∷ 100 ∷ []) totals.rescued
    ++ counted (32 ∷ 100 ∷ 101 ∷ 97 ∷ 100 ∷ []) totals.dead
    ++ counted (32 ∷ 101 ∷ 118 ∷ 105 ∷ 99 ∷ 116 ∷ 101 ∷ 100 ∷ []) totals.evicted
    ++ ((10 ∷ []) ∷ [])

-- a line for each call and for a 19, and the totals of a whole trace
unfoldable pub trace_lines : Trace → List Bytes
trace_lines t = placed_lines 0 (lines t) ++ cond t.whole (totals_line (trace_totals t)) []

-- what is printed where n bytes were read, and these are the first of them: more than 65,536 are no trace, whatever they are
unfoldable pub trace_output : ℕ → Bytes → List Bytes
trace_output n first = cond (ltb 65536 n) (placed_line 0 19) (trace_lines (read_trace (take n first)))
