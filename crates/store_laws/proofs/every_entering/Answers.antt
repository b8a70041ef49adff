use Rattle.store_laws.proofs.Lookups.{every-entering}
use Rattle.store_laws.proofs.every_entering.Goals as goal

pub returns : goal.returns
returns c = every-entering
