use mathlib.Core.Path.{◌≡◌}
use native.Mathlib.Omega.{arith}
use Rattle.guards.specs.Recording.{bodies_in}
use Rattle.store_rules.specs.View.{held_view}
use Rattle.store_bench.specs.Loads.{guarded_by}
use Rattle.store_bench.proofs.Calls.{each_round, few_a_round}
use Rattle.store_bench.proofs.gap_quarantine_guarded_polls.Goals as goal

pub told_in_all-requires-clause-few : goal.told_in_all-requires-clause-few
told_in_all-requires-clause-few c = few_a_round _ {n = 8} (λ f. held_view (bodies_in f.1.now) f.0.now ≡ guarded_by 8) (λ f a r f' k i. ((k.met.1 i).0, rw k.met.0.1 (k.met.1 i).1)) c.guarded_store-h.ensures (omega arith)

pub returns : goal.returns
returns c = c.told_in_all.ensures 8 (each_round _ (λ f. held_view (bodies_in f.1.now) f.0.now ≡ guarded_by 8) (λ f a r f' k i. ((k.met.1 i).0, rw k.met.0.1 (k.met.1 i).1)) c.guarded_store-h.ensures)
