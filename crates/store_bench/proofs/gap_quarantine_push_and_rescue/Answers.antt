use mathlib.Core.Path.{◌≡◌, ◌∙◌}
use native.Mathlib.Omega.{arith}
use Rattle.store_bench.specs.Loads.{no_bodies}
use Rattle.store_bench.proofs.Computed.{computed}
use Rattle.store_bench.proofs.Performing.{leads, seen}
use Rattle.store_bench.proofs.gap_quarantine_push_and_rescue.Goals as goal
use Rattle.store_bench.proofs.gap_quarantine_push_and_rescue.Goals.{After-counted-seen}

-- the round tells of one
one : (c : After-counted-seen) → c.counted-seen.result ≡ 1
one c = c.counted-seen.ensures ∙ seen _ (c.poll-r.ensures no_bodies) ((c.push-pushed.ensures no_bodies).store ∙ rw (c.frame.ensures, c.loop.invariant.1)) computed.rescued

pub overflow_add-seen : goal.overflow_add-seen
overflow_add-seen c = omega (arith, one c)

pub loop-preserved : goal.loop-preserved
loop-preserved c = (omega (arith, one c), leads _ (c.poll-r.ensures no_bodies) ((c.push-pushed.ensures no_bodies).store ∙ rw (c.frame.ensures, c.loop.invariant.1)) computed.rescued)
