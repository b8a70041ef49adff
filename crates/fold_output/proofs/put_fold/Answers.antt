use mathlib.Core.Path.{ap, ◌∙◌}
use native.Mathlib.Omega.{arith}
use Rattle.console.specs.Waiting.{waits, all_behind}
use Rattle.fold_output.proofs.Printing.{printed}
use Rattle.fold_output.proofs.put_fold.Goals as goal

pub returns : goal.returns
returns c =
    let a = c.args in
    c.put_journal.ensures ∙ ap (all_behind (waits a.out.now)) (printed a.n c.min.result a.read.now (omega arith) (omega arith))
