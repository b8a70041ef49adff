use Rattle.store_laws.proofs.ShortRows.{short-as-long}
use Rattle.store_laws.proofs.short_as_long.Goals as goal

pub returns : goal.returns
returns c = short-as-long
