use mathlib.Core.Path.{ap, ◌∙◌}
use Rattle.console.specs.Waiting.{waits, all_behind}
use Rattle.fold_output.proofs.Printing.{line_of}
use borrow.Author.Rules.{rules}
use Rattle.fold_output.proofs.put_journal.Goals as goal

pub returns : goal.returns
returns c = c.fold_line.ensures ∙ ap (all_behind (waits c.args.out.now)) (line_of c.args.journal.now _ _ (search rules) c.gap_quarantine_fold-code.ensures)
