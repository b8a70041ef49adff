use Rattle.store_laws.proofs.Gaps.{gap-is-whole}
use Rattle.store_laws.proofs.gap_is_whole.Goals as goal

pub returns : goal.returns
returns c = gap-is-whole
