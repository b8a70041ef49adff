use Rattle.gap_quarantine.proofs.Whole.{whole}
use Rattle.gap_quarantine.proofs.Quarantine.check_finalized.Goals as goal

pub returns : goal.returns
returns c = whole (c.check_finalized.ensures _) c.after.ensures
