use native.Mathlib.Omega.{arith}
use mathlib.Core.Path.{sym, ◌∙◌}
use Rattle.console.specs.Waiting.{waits}
use Rattle.trace_output.proofs.Printing.{line-turn, line-done}
use Rattle.trace_output.proofs.placed_lines.Goals as goal

pub loop-place-preserved : goal.loop-place-preserved
loop-place-preserved c =
    let l = c.loop-place in
    line-turn c.args.lines.now (waits l.out) _ l.place (omega arith) c.placed_line.ensures ∙ l.invariant

pub returns : goal.returns
returns c =
    let l = c.loop-place in
    sym (line-done c.args.lines.now (waits l.out) l.place (omega arith)) ∙ l.invariant
