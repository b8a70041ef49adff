use mathlib.Core.Path.{◌∙◌}
use Rattle.store_bench.proofs.Calls.{each_call, few_a_call}
use Rattle.store_bench.proofs.Computed.{at_size}
use Rattle.store_bench.proofs.store_bench_waiting_short.Goals as goal

pub told_in_all-requires-clause-few : goal.told_in_all-requires-clause-few
told_in_all-requires-clause-few c = few_a_call _ (λ a r f' k. (k.met.0 ∙ rw (c.store_of-h.ensures, c.sized.ensures, (at_size _).waits-short), k.met.1)) (at_size c.args.frames).few

pub returns : goal.returns
returns c = c.told_in_all.ensures _ (each_call _ (λ a r f' k. (k.met.0 ∙ rw (c.store_of-h.ensures, c.sized.ensures, (at_size _).waits-short), k.met.1)))
