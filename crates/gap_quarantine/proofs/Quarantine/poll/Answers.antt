use Rattle.gap_quarantine.proofs.Whole.{whole}
use Rattle.gap_quarantine.proofs.Quarantine.poll.Goals as goal

pub returns : goal.returns
returns c = whole (c.poll.ensures _) c.after.ensures
