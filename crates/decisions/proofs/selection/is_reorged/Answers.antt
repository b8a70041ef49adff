use native.Mathlib.Omega.{arith}
use mathlib.Core.Path.{ap, ◌∙◌}
use mathlib.Core.Bool.{not}
use Rattle.decisions.proofs.Selecting.{any-hash, that-hash}
use Rattle.decisions.proofs.selection.is_reorged.Goals as goal

pub returns-in-Some : goal.returns-in-Some
returns-in-Some c = rw c.in-Some.is (ap not c.same_hash.ensures ∙ that-hash c.args.e.now _ c.in-Tentative.is _ (omega (arith, c.block_of.ensures)) c.in-Some.hash)

pub returns-in-None : goal.returns-in-None
returns-in-None c = rw c.in-None.is (any-hash c.args.e.now _ c.in-Tentative.is _ (omega (arith, c.block_of.ensures)))
