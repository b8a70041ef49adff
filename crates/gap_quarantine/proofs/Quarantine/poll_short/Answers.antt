use Rattle.gap_quarantine.proofs.Whole.{whole}
use Rattle.gap_quarantine.proofs.Quarantine.poll_short.Goals as goal

pub returns : goal.returns
returns c = whole (c.poll_short.ensures _) c.after.ensures
