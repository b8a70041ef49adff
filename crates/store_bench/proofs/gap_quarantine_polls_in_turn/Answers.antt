use mathlib.Core.Path.{◌∙◌}
use native.Mathlib.Omega.{arith}
use Rattle.store_bench.specs.Loads.{no_bodies}
use Rattle.store_bench.proofs.Performing.{tells}
use Rattle.store_bench.proofs.Turns.{none-turned, tells-few, one-turned}
use Rattle.store_bench.proofs.gap_quarantine_polls_in_turn.Goals as goal

pub loop-i-init : goal.loop-i-init
loop-i-init c = rw (c.lone_store-h.ensures _) none-turned

pub overflow_add-seen : goal.overflow_add-seen
overflow_add-seen c =
    let l = c.loop-i in
    omega (arith, l.invariant.few, tells-few _ _ _ l.invariant _ (c.counted-seen.ensures ∙ tells _ (c.poll-r.ensures no_bodies) ∙ rw c.numbered-sender.ensures))

pub loop-i-preserved : goal.loop-i-preserved
loop-i-preserved c =
    let l = c.loop-i in
    one-turned _ _ _ l.invariant _ (c.counted-seen.ensures ∙ tells _ (c.poll-r.ensures no_bodies) ∙ rw c.numbered-sender.ensures) _ ((c.poll-r.ensures no_bodies).store ∙ rw c.numbered-sender.ensures)
