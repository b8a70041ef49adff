use mathlib.Core.Path.{refl}
use Rattle.trace_output.specs.Lines.{totals_line}
use Rattle.console.proofs.Putting.{a-count, and-count, and-text}
use Rattle.trace_output.proofs.totals_line.Goals as goal

pub returns : goal.returns
unfolding totals_line
returns c = let a = c.args.totals in
    let first = a-count _ _ a.accepted _ _ refl c.count.ensures in
    let second = and-count _ _ _ a.held _ _ _ first refl c.count-2.ensures in
    let third = and-count _ _ _ a.rescued _ _ _ second refl c.count-3.ensures in
    let fourth = and-count _ _ _ a.dead _ _ _ third refl c.count-4.ensures in
    let fifth = and-count _ _ _ a.evicted _ _ _ fourth refl c.count-5.ensures in
    and-text _ _ _ _ _ fifth c.text.ensures
