-- The examples are computed.
use mathlib.Core.Path.{refl}
use Rattle.lists.specs.Lists.{collect}
use Rattle.console.specs.Waiting.{places, decimal, counted}
use Rattle.trace_laws.proofs.Examples.{computing}
use Rattle.trace_output.specs.Lines.{placed_line, placed_lines, totals_line, trace_lines, trace_output}
use Rattle.trace_output.specs.Examples.{printed, Examples}

pub examples : Examples
unfolding computing collect places decimal counted placed_line placed_lines totals_line trace_lines trace_output printed
examples = record { rescued = refl; cut = refl; nothing = λ first. refl; over = λ first. refl }
