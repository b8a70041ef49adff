use Rattle.store_laws.proofs.ShortRows.{short-needs-less}
use Rattle.store_laws.proofs.short_needs_less.Goals as goal

pub returns : goal.returns
returns c = short-needs-less
