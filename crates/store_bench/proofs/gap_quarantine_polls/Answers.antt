use mathlib.Core.Path.{◌≡◌}
use native.Mathlib.Omega.{arith}
use Rattle.store_bench.specs.Loads.{alone, pushed}
use Rattle.store_bench.proofs.Calls.{each_round, few_a_round}
use Rattle.store_bench.proofs.gap_quarantine_polls.Goals as goal

pub told_in_all-requires-clause-few : goal.told_in_all-requires-clause-few
told_in_all-requires-clause-few c = few_a_round _ {n = 8} (λ f. alone f.0.now ≡ pushed 8) (λ f a r f' k. k.met.1) (c.store_of-h.ensures _) (omega arith)

pub returns : goal.returns
returns c = c.told_in_all.ensures 8 (each_round _ (λ f. alone f.0.now ≡ pushed 8) (λ f a r f' k. k.met.1) (c.store_of-h.ensures _))
