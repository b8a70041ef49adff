use mathlib.Core.Path.{ap, ◌∙◌}
use native.Mathlib.Omega.{arith}
use Rattle.console.specs.Waiting.{waits, all_behind}
use Rattle.trace_output.proofs.Printing.{printed}
use Rattle.trace_output.proofs.put_trace.Goals as goal

pub returns : goal.returns
returns c =
    let a = c.args in
    c.put_lines.ensures ∙ ap (all_behind (waits a.out.now)) (printed a.n c.min.result a.read.now (omega arith) (omega arith))
