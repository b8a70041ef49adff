use Rattle.store_laws.proofs.Totals.{totals-add-up-from}
use Rattle.store_laws.proofs.totals_add_up_from.Goals as goal

pub returns : goal.returns
returns c = totals-add-up-from
