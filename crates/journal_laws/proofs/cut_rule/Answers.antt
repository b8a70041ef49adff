use Rattle.journal_laws.proofs.Cut.{cut-rule}
use Rattle.journal_laws.proofs.cut_rule.Goals as goal

pub returns : goal.returns
returns c = cut-rule
