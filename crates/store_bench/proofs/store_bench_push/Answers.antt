use mathlib.Core.Path.{◌∙◌}
use native.Mathlib.Omega.{arith}
use Rattle.store_bench.proofs.Calls.{each_call, few_a_call}
use Rattle.store_bench.proofs.Computed.{computed}
use Rattle.store_bench.proofs.store_bench_push.Goals as goal

pub told_in_all-requires-clause-few : goal.told_in_all-requires-clause-few
told_in_all-requires-clause-few c = few_a_call _ {n = 9} (λ a r f' k. (k.met.0 ∙ rw (c.store_of-h.ensures, computed.ninth), k.met.1)) (omega arith)

pub returns : goal.returns
returns c = c.told_in_all.ensures 9 (each_call _ (λ a r f' k. (k.met.0 ∙ rw (c.store_of-h.ensures, computed.ninth), k.met.1)))
