use mathlib.Core.Path.{◌∙◌}
use Rattle.store_bench.proofs.Computed.{computed}
use Rattle.store_bench.proofs.Performing.{leads, seen}
use Rattle.store_bench.proofs.fn.gap_quarantine_guarded_polls.round.Goals as goal

pub returns : goal.returns
returns c i = (c.counted.ensures ∙ seen _ c.poll_with_content-r.ensures i computed.guarded-polled, leads _ c.poll_with_content-r.ensures i computed.guarded-polled)
