use Prim.Native.Nat.{ℕ}
use mathlib.Core.Path.{ap, ◌∙◌}
use lib.ListN.{set}
use Rattle.lists.proofs.Writing.{one_at}
use Rattle.gap_quarantine.specs.Promises.{view_of}
use Rattle.trace_run.specs.declared.Ran.{Ran}
use Rattle.trace_run.proofs.too_long.Goals as goal

pub returns : goal.returns
returns c = let ended = c.ended in
    let lines = c.args.lines.now in (
      rw (ended.ensures, c.none.ensures),
      ap (λ (r : Ran). view_of r.store) ended.ensures ∙ c.new.ensures,
      ap (λ (n : ℕ). set lines 0 n) c.number.ensures ∙ one_at lines 0 19 c.requires,
    )
