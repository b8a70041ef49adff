use mathlib.Core.Path.{◌∙◌}
use Rattle.store_bench.proofs.Filling.{filled_none, filled_more}
use Rattle.store_bench.proofs.stores.filled.Goals as goal

pub loop-n-init : goal.loop-n-init
loop-n-init c = λ bodies. c.new-h.ensures bodies ∙ filled_none _

pub loop-n-preserved : goal.loop-n-preserved
loop-n-preserved c = λ bodies. (c.push.ensures bodies).store ∙ rw (c.frame_of.ensures, c.whose.ensures, c.loop-n.invariant bodies) (filled_more _ _)
