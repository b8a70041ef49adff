use Rattle.gap_quarantine.proofs.PassSteps.{no_bytes}
use borrow.Author.Rules.{rules}
use Rattle.gap_quarantine.proofs.passing.check_reorg.Goals as goal

pub returns : goal.returns
returns c = no_bytes _ _ _ _ _ _ c.pass-answer.ensures (search rules)
