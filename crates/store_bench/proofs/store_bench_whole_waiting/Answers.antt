use mathlib.Core.Path.{◌≡◌}
use native.Mathlib.Omega.{arith}
use Rattle.gap_quarantine.specs.Promises.{view_of}
use Rattle.store_bench.specs.Loads.{pushed}
use Rattle.store_bench.proofs.Calls.{each_round, few_a_round}
use Rattle.store_bench.proofs.store_bench_whole_waiting.Goals as goal

pub told_in_all-requires-clause-few : goal.told_in_all-requires-clause-few
told_in_all-requires-clause-few c = few_a_round _ {n = 8} (λ f. view_of f.0.now ≡ pushed 8) (λ f a r f' k. k.met.1) (c.store_of.ensures _) (omega arith)

pub returns : goal.returns
returns c = c.told_in_all.ensures 8 (each_round _ (λ f. view_of f.0.now ≡ pushed 8) (λ f a r f' k. k.met.1) (c.store_of.ensures _))
