use Rattle.fold_output.specs.Lines.{total, totals_line}
use Rattle.console.proofs.Putting.{a-count, and-count, and-text}
use Rattle.fold_output.proofs.totals_line.Goals as goal

pub returns : goal.returns
unfolding totals_line total
returns c =
    let first = a-count _ _ _ _ _ c.number.ensures c.count.ensures in
    let second = and-count _ _ _ _ _ _ _ first c.number-2.ensures c.count-2.ensures in
    let third = and-count _ _ _ _ _ _ _ second c.number-3.ensures c.count-3.ensures in
    let fourth = and-count _ _ _ _ _ _ _ third c.number-4.ensures c.count-4.ensures in
    let fifth = and-count _ _ _ _ _ _ _ fourth c.number-5.ensures c.count-5.ensures in
    and-text _ _ _ _ _ fifth c.text.ensures
