use Rattle.std.proofs.Common.{◌≡◌, false, sym, ◌∙◌}
use Rattle.store_rules.proofs.Matches.{content-is}
use Rattle.store_rules.proofs.matching.content_matches.Goals as goal
use Rattle.store_rules.proofs.matching.content_matches.Goals.{then-not-is_empty, else-not-is_empty}

pub returns-then-not-is_empty-2 : goal.returns-then-not-is_empty-2
returns-then-not-is_empty-2 c = elim c.if-not-is_empty.branch [
  | then-not-is_empty w ↦ c.contents_hold.ensures ∙ sym (content-is _ _ _ ∙ rw (← c.is_empty.ensures, ← w.is_empty-then-not-is_empty.ensures, w.if-not-is_empty.true, sym w.value-is ∙ c.if-not-is_empty-2.true))
  | else-not-is_empty w ↦ let x : c.if-not-is_empty.value ≡ false = w.value-is ∙ rw w.if-not-is_empty.false in cc
]

pub returns-else-not-is_empty-2 : goal.returns-else-not-is_empty-2
returns-else-not-is_empty-2 c =
    c.if-not-is_empty-2.false
    ∙ sym (content-is _ _ _
    ∙ elim c.if-not-is_empty.branch [
      | then-not-is_empty w ↦ rw (← c.is_empty.ensures, ← w.is_empty-then-not-is_empty.ensures, w.if-not-is_empty.true, sym w.value-is ∙ c.if-not-is_empty-2.false)
      | else-not-is_empty w ↦ rw (← c.is_empty.ensures, w.if-not-is_empty.false)
    ])
