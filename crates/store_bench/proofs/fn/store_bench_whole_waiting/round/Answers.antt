use mathlib.Core.Path.{◌∙◌}
use Rattle.store_bench.proofs.Computed.{computed}
use Rattle.store_bench.proofs.Performing.{leads, seen}
use Rattle.store_bench.proofs.fn.store_bench_whole_waiting.round.Goals as goal

pub returns : goal.returns
returns c i = (c.counted.ensures ∙ seen _ c.poll-r.ensures i computed.polled, leads _ c.poll-r.ensures i computed.polled)
