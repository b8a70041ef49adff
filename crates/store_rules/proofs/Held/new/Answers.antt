use mathlib.Core.Path.{refl}
use Rattle.store_rules.specs.Store.{empty}
use Rattle.store_rules.specs.View.{live_of}
use Rattle.store_rules.proofs.Held.new.Goals as goal

pub returns : goal.returns
unfolding empty live_of
returns c bodies = refl
