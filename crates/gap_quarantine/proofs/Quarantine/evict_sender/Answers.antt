use Rattle.gap_quarantine.proofs.Whole.{whole}
use Rattle.gap_quarantine.proofs.Quarantine.evict_sender.Goals as goal

pub returns : goal.returns
returns c = whole (c.evict_sender.ensures _) c.after.ensures
