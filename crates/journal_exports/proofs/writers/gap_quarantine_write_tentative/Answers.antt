use native.Mathlib.Omega.{arith}
use mathlib.Core.Path.{◌≡◌, sym, ◌∙◌}
use mathlib.Core.Bool.{Bool, true}
use mathlib.Core.List.{List, [], ◌∷◌}
use borrow.Author.Tests.{eqb-true}
use lib.Dec.{eqb}
use lib.ListN.{length}
use Rattle.lists.specs.Lists.{Each}
use Rattle.journal_writer.specs.Writing.{entry_value, write}
use Rattle.journal_writer.specs.View.{answer_seen}
use Rattle.journal_writer.proofs.Sized.{each-true}
use Rattle.journal_exports.specs.Writers.{is_consumed, exported_entry}
use Rattle.journal_exports.proofs.Arguments.{answer-short, refused_as, written_as}
use Rattle.journal_exports.proofs.writers.gap_quarantine_write_tentative.Goals as goal
use Rattle.journal_exports.proofs.writers.gap_quarantine_write_tentative.Goals.{Else-not-is_entry}

-- each test of the arguments
abbrev tests : Else-not-is_entry → List Bool
tests c =
    let a = c.args in
    eqb (length a.hash.now) 32 ∷ is_consumed a.kind a.block_hash.now a.by.now ∷ []

-- has passed
passed : (c : Else-not-is_entry) → Each (λ b. b ≡ true) (tests c)
passed c = each-true (tests c) (sym c.is_entry.ensures ∙ c.if-not-is_entry.false)

pub returns-then-not-is_entry : goal.returns-then-not-is_entry
unfolding exported_entry
returns-then-not-is_entry c = refused_as _ _ c.args.out.now c.number.result c.number.ensures (sym c.is_entry.ensures ∙ c.if-not-is_entry.true)

pub array-requires : goal.array-requires
array-requires c = (omega arith, eqb-true (length c.args.hash.now) 32 (passed (goal.at.array-requires c).Else-not-is_entry).0)

pub consumed-requires : goal.consumed-requires
consumed-requires c = (passed (goal.at.consumed-requires c).Else-not-is_entry).1.0

pub code_of_answer-requires : goal.code_of_answer-requires
code_of_answer-requires c = answer-short _ c.args.out.now (record { answer = answer_seen c.write_tentative.result; out = c.write_tentative.new.out }) c.write_tentative.ensures

pub returns : goal.returns
unfolding exported_entry
returns c =
    let a = c.args in
    let w = c.write_tentative in
    written_as _ _ a.out.now c.code_of_answer.result (record { answer = answer_seen w.result; out = w.new.out }) c.code_of_answer.ensures
    (w.ensures ∙ (λ i. write (entry_value (record { version = a.version; hash = c.array.ensures i; consumed = c.consumed.ensures i; entered_at = a.entered_at })) a.out.now))
    (sym c.is_entry.ensures ∙ c.if-not-is_entry.false)
