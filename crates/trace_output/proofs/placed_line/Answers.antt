use mathlib.Core.Path.{ap, ◌∙◌}
use mathlib.Core.List.{[], ◌∷◌}
use Rattle.lists.specs.Bytes.{Bytes}
use Rattle.trace_output.specs.Lines.{placed_line}
use Rattle.console.specs.Waiting.{behind, all_behind, decimal}
use Rattle.trace_output.proofs.placed_line.Goals as goal

pub returns : goal.returns
unfolding all_behind placed_line
returns c = c.text.ensures ∙ ap (λ (w : Bytes). behind w (10 ∷ [])) (c.next.ensures ∙ ap (λ (w : Bytes). behind (behind w (32 ∷ [])) (decimal c.args.n)) c.number.ensures)
