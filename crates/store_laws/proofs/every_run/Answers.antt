use Rattle.store_laws.proofs.Reachable.{every-run}
use Rattle.store_laws.proofs.every_run.Goals as goal

pub returns : goal.returns
returns c = every-run
