use mathlib.Core.Path.{◌∙◌}
use native.Mathlib.Omega.{arith}
use Rattle.store_bench.specs.Loads.{no_bodies}
use Rattle.store_bench.proofs.Calls.{each_call, few_a_call}
use Rattle.store_bench.proofs.Computed.{computed}
use Rattle.store_bench.proofs.store_bench_finality.Goals as goal

pub told_in_all-requires-clause-few : goal.told_in_all-requires-clause-few
told_in_all-requires-clause-few c = few_a_call _ {n = 1} (λ a r f' k. (k.met.0 ∙ rw (c.mined-h.ensures no_bodies, c.store_of.ensures no_bodies, computed.ends), k.met.1)) (omega arith)

pub returns : goal.returns
returns c = omega (arith, c.told_in_all.ensures 1 (each_call _ (λ a r f' k. (k.met.0 ∙ rw (c.mined-h.ensures no_bodies, c.store_of.ensures no_bodies, computed.ends), k.met.1))))
