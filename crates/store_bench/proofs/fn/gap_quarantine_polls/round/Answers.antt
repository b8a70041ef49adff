use mathlib.Core.Path.{◌∙◌}
use Rattle.store_bench.specs.Loads.{no_bodies}
use Rattle.store_bench.proofs.Computed.{computed}
use Rattle.store_bench.proofs.Performing.{leads, seen}
use Rattle.store_bench.proofs.fn.gap_quarantine_polls.round.Goals as goal

pub returns : goal.returns
returns c i = (c.counted.ensures ∙ seen _ (c.poll-r.ensures no_bodies) i computed.polled, leads _ (c.poll-r.ensures no_bodies) i computed.polled)
