use Rattle.store_laws.proofs.Totals.{totals-add-up}
use Rattle.store_laws.proofs.totals_add_up.Goals as goal

pub returns : goal.returns
returns c = totals-add-up
