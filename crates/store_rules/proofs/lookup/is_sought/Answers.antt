use mathlib.Core.Path.{◌≡◌, sym, ◌∙◌}
use Rattle.lists.specs.Bytes.{eq_bytes}
use Rattle.store_rules.specs.Searching.{sought}
use Rattle.store_rules.specs.View.{entry_of}
use Rattle.store_rules.proofs.Seen.{enters-tentative, enters-tracked}
use Rattle.store_rules.proofs.lookup.is_sought.Goals as goal
use Rattle.store_rules.proofs.lookup.is_sought.Goals.{then-tracked+in-Tracked, else-tracked}

pub returns-in_default : goal.returns-in_default
returns-in_default c =
    let a = c.args in
    rw c.if-tracked.true (sym (enters-tentative a.hash a.e.now _ c.in_default.is))

pub returns : goal.returns
returns c =
    let a = c.args in
    c.same_hash.ensures
    ∙ elim c.if-tracked.branch as (λ b. eq_bytes a.e.now.frame.hash a.hash ≡ sought a.hash a.tracked (entry_of a.e.now)) [
      | then-tracked+in-Tracked w ↦ rw w.if-tracked.true (sym (enters-tracked a.hash a.e.now w.in-Tracked.is))
      | else-tracked w ↦ rw w.if-tracked.false
    ]
