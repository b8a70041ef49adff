use Rattle.store_laws.proofs.Lookups.{every-lookup}
use Rattle.store_laws.proofs.every_lookup.Goals as goal

pub returns : goal.returns
returns c = every-lookup
