use mathlib.Core.Path.{ap, ◌∙◌}
use native.Mathlib.Omega.{arith}
use Rattle.console.specs.Waiting.{waits, behind}
use Rattle.console.proofs.Places.{decimal-text}
use Rattle.console.proofs.output.Output.number.Goals as goal

pub returns : goal.returns
returns c =
    let d = c.decimal-k in
    c.text.ensures ∙ ap (behind (waits c.args.self.now)) (decimal-text c.args.n d.result _ (omega arith) d.ensures.len d.ensures.digits)
