use mathlib.Core.Path.{◌≡◌, ap, sym, ◌∙◌}
use Rattle.console.specs.Waiting.{waits, all_behind}
use Rattle.trace_format.specs.Traces.{read_trace, lines}
use Rattle.trace_output.specs.Lines.{placed_lines}
use Rattle.trace_output.proofs.Printing.{ran-lines, without-totals, with-totals}
use Rattle.trace_output.proofs.put_lines.Goals as goal
use Rattle.trace_output.proofs.put_lines.Goals.{After-placed_lines}

-- the line of each call was put
put : (c : After-placed_lines) → waits c.placed_lines.new.out ≡ all_behind (waits c.args.out.now) (placed_lines 0 (lines (read_trace c.args.trace.now)))
put c = c.placed_lines.ensures ∙ ap (λ ns. all_behind (waits c.args.out.now) (placed_lines 0 ns)) (ran-lines _ _ _ _ c.run_trace-ran.ensures)

pub returns-then-whole : goal.returns-then-whole
returns-then-whole c =
    let ran = c.run_trace-ran.ensures in
    with-totals _ _ _ (put (goal.at.returns-then-whole c).After-placed_lines) _ _ (sym ran.whole ∙ c.if-whole.true) ran.totals c.totals_line.ensures

pub returns-else-whole : goal.returns-else-whole
returns-else-whole c =
    without-totals _ _ _ (put (goal.at.returns-else-whole c).After-placed_lines) (sym c.run_trace-ran.ensures.whole ∙ c.if-whole.false)
