use native.Mathlib.Omega.{arith}
use mathlib.Core.Path.{◌≡◌, sym, ap, ◌∙◌}
use mathlib.Core.Bool.{Bool, true}
use mathlib.Core.List.{List, [], ◌∷◌}
use borrow.Author.Tests.{eqb-true}
use lib.Dec.{eqb, leb}
use lib.ListN.{length}
use Rattle.lists.specs.Lists.{Each}
use Rattle.journal_record.specs.Reading.{resolution_value}
use Rattle.journal_record.specs.View.{resolution_seen}
use Rattle.journal_record.proofs.Shown.{resolution-seen}
use Rattle.journal_writer.specs.Writing.{resolve_value, write}
use Rattle.journal_writer.specs.View.{answer_seen}
use Rattle.journal_writer.proofs.Sized.{each-true}
use Rattle.journal_exports.specs.Writers.{exported_resolve}
use Rattle.journal_exports.proofs.Arguments.{answer-short, refused_as, written_as}
use Rattle.journal_exports.proofs.writers.gap_quarantine_write_resolve.Goals as goal
use Rattle.journal_exports.proofs.writers.gap_quarantine_write_resolve.Goals.{Else-not-is_resolve}

-- each test of the arguments
abbrev tests : Else-not-is_resolve → List Bool
tests c =
    let a = c.args in
    eqb (length a.hash.now) 32 ∷ leb 1 a.resolution ∷ leb a.resolution 4 ∷ []

-- has passed
passed : (c : Else-not-is_resolve) → Each (λ b. b ≡ true) (tests c)
passed c = each-true (tests c) (sym c.is_resolve.ensures ∙ c.if-not-is_resolve.false)

pub returns-then-not-is_resolve : goal.returns-then-not-is_resolve
unfolding exported_resolve
returns-then-not-is_resolve c = refused_as _ _ c.args.out.now c.number.result c.number.ensures (sym c.is_resolve.ensures ∙ c.if-not-is_resolve.true)

pub array-requires : goal.array-requires
array-requires c = (omega arith, eqb-true (length c.args.hash.now) 32 (passed (goal.at.array-requires c).Else-not-is_resolve).0)

pub code_of_answer-requires : goal.code_of_answer-requires
code_of_answer-requires c = answer-short _ c.args.out.now (record { answer = answer_seen c.write_resolve.result; out = c.write_resolve.new.out }) c.write_resolve.ensures

pub returns : goal.returns
unfolding exported_resolve
returns c =
    let a = c.args in
    let w = c.write_resolve in
    let how = ap resolution_seen c.from.ensures ∙ resolution-seen (resolution_value a.resolution) in
    written_as _ _ a.out.now c.code_of_answer.result (record { answer = answer_seen w.result; out = w.new.out }) c.code_of_answer.ensures
    (w.ensures ∙ (λ i. write (resolve_value (record { version = a.version; hash = c.array.ensures i; resolution = how i; resolved_at = a.resolved_at })) a.out.now))
    (sym c.is_resolve.ensures ∙ c.if-not-is_resolve.false)
