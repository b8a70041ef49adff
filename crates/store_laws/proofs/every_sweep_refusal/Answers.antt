use Rattle.store_laws.proofs.Refusals.{every-sweep-refusal}
use Rattle.store_laws.proofs.every_sweep_refusal.Goals as goal

pub returns : goal.returns
returns c = every-sweep-refusal
