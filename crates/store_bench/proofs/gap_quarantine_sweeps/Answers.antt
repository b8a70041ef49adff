use mathlib.Core.Path.{◌≡◌}
use native.Mathlib.Omega.{arith}
use Rattle.store_bench.specs.Loads.{alone, lone, addresses}
use Rattle.store_bench.proofs.Calls.{each_round, few_a_round}
use Rattle.store_bench.proofs.gap_quarantine_sweeps.Goals as goal

pub told_in_all-requires-clause-few : goal.told_in_all-requires-clause-few
told_in_all-requires-clause-few c = few_a_round _ {n = 64} (λ f. (alone f.0.now ≡ lone 64) × (f.1.now ≡ addresses 64)) (λ f a r f' k i. ((k.met.1 i.1 i.0).0, ((k.met.1 i.1 i.0).1, rw k.met.0.1 i.1))) (c.lone_store-h.ensures _, c.addresses-senders.ensures) (omega arith)

pub returns : goal.returns
returns c = c.told_in_all.ensures 64 (each_round _ (λ f. (alone f.0.now ≡ lone 64) × (f.1.now ≡ addresses 64)) (λ f a r f' k i. ((k.met.1 i.1 i.0).0, ((k.met.1 i.1 i.0).1, rw k.met.0.1 i.1))) (c.lone_store-h.ensures _, c.addresses-senders.ensures))
