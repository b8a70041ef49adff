use mathlib.Core.Path.{ap, ◌∙◌}
use Rattle.store_bench.specs.Loads.{no_bodies, counted}
use Rattle.store_bench.proofs.Computed.{swept}
use Rattle.store_bench.proofs.fn.gap_quarantine_sweeps.round.Goals as goal

pub returns : goal.returns
returns c s i = (c.counted.ensures ∙ ap counted (c.sweep-r.ensures no_bodies).answer ∙ rw (i, s) swept.seen, (c.sweep-r.ensures no_bodies).store ∙ rw (i, s) swept.store)
