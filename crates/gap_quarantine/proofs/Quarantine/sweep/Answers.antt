use Rattle.gap_quarantine.proofs.Whole.{whole}
use Rattle.gap_quarantine.proofs.Quarantine.sweep.Goals as goal

pub returns : goal.returns
returns c = whole (c.sweep.ensures _) c.after.ensures
