use mathlib.Core.Path.{◌≡◌, ◌∙◌}
use native.Mathlib.Omega.{arith}
use Rattle.store_bench.specs.Loads.{no_bodies}
use Rattle.store_bench.proofs.Computed.{computed}
use Rattle.store_bench.proofs.Performing.{leads, seen}
use Rattle.store_bench.proofs.gap_quarantine_finality.Goals as goal
use Rattle.store_bench.proofs.gap_quarantine_finality.Goals.{After-counted-seen}

-- the round tells of one
one : (c : After-counted-seen) → c.counted-seen.result ≡ 1
one c = c.counted-seen.ensures ∙ seen _ (c.check_finalized-r.ensures no_bodies) (c.mined-entered.ensures no_bodies ∙ rw ((c.push-pushed.ensures no_bodies).store, c.frame.ensures, c.loop.invariant.1)) computed.ended

pub overflow_add-seen : goal.overflow_add-seen
overflow_add-seen c = omega (arith, one c)

pub loop-preserved : goal.loop-preserved
loop-preserved c = (omega (arith, one c), leads _ (c.check_finalized-r.ensures no_bodies) (c.mined-entered.ensures no_bodies ∙ rw ((c.push-pushed.ensures no_bodies).store, c.frame.ensures, c.loop.invariant.1)) computed.ended)
