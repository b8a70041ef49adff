use Prim.Native.Nat.{◌*◌}
use mathlib.Core.Path.{◌∙◌, ap}
use lib.ListN.{set}
use Rattle.lists.specs.Bytes.{Bytes}
use Rattle.store_bench.proofs.Filling.{no_address, one_address}
use Rattle.store_bench.proofs.stores.addresses.Goals as goal

pub loop-n-init : goal.loop-n-init
loop-n-init c = no_address

pub loop-n-preserved : goal.loop-n-preserved
loop-n-preserved c = let l = c.loop-n in ap (λ (b : Bytes). set b (20 * l.n) l.n) l.invariant ∙ one_address l.n
