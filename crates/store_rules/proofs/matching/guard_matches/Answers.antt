use Rattle.std.proofs.Common.{◌≡◌, false, sym, ◌∙◌}
use Rattle.store_rules.proofs.Matches.{guard-is}
use Rattle.store_rules.proofs.matching.guard_matches.Goals as goal
use Rattle.store_rules.proofs.matching.guard_matches.Goals.{then-eq, else-eq}

pub returns-then-boundary_holds : goal.returns-then-boundary_holds
returns-then-boundary_holds c hash = elim c.if-eq.branch [
  | then-eq w ↦ c.content_matches.ensures ∙ sym (guard-is _ _ _ _ ∙ rw (← c.eq.ensures, w.if-eq.true, ← w.boundary_holds.ensures, sym w.value-is ∙ c.if-boundary_holds.true))
  | else-eq w ↦ let x : c.if-eq.value ≡ false = w.value-is ∙ w.if-eq.false in cc
]

pub returns-else-boundary_holds : goal.returns-else-boundary_holds
returns-else-boundary_holds c hash =
    c.if-boundary_holds.false
    ∙ sym (guard-is _ _ _ _
    ∙ elim c.if-eq.branch [
      | then-eq w ↦ rw (← c.eq.ensures, w.if-eq.true, ← w.boundary_holds.ensures, sym w.value-is ∙ c.if-boundary_holds.false)
      | else-eq w ↦ rw (← c.eq.ensures, w.if-eq.false)
    ])
