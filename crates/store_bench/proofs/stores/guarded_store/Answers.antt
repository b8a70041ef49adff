use mathlib.Core.Path.{◌∙◌}
use Rattle.guards.specs.Recording.{bodies_in}
use Rattle.store_bench.proofs.Filling.{guarded-none, guarded-more}
use Rattle.store_bench.proofs.stores.guarded_store.Goals as goal

pub loop-n-init : goal.loop-n-init
loop-n-init c = c.new-h.ensures _ ∙ guarded-none

pub loop-n-preserved : goal.loop-n-preserved
loop-n-preserved c = c.record_repark_guard_with_content-r.ensures.store ∙ rw (c.numbered.ensures, (c.push.ensures (bodies_in c.loop-n.bodies)).store, c.frame.ensures, c.loop-n.invariant) (guarded-more _)
