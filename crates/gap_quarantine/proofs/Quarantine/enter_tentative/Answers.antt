use Rattle.gap_quarantine.proofs.Whole.{whole-gives}
use Rattle.gap_quarantine.proofs.Quarantine.enter_tentative.Goals as goal

pub returns : goal.returns
returns c = whole-gives (c.enter_tentative-r.ensures _)
