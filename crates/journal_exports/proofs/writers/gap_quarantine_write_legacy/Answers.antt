use native.Mathlib.Omega.{arith}
use mathlib.Core.Path.{◌≡◌, sym, ◌∙◌}
use mathlib.Core.Bool.{Bool, true}
use mathlib.Core.List.{List, [], ◌∷◌}
use lib.Dec.{eqb}
use Rattle.layout.specs.Layout.{within}
use Rattle.lists.specs.Lists.{Each}
use Rattle.journal_writer.specs.Writing.{legacy_value, write}
use Rattle.journal_writer.specs.View.{answer_seen}
use Rattle.journal_writer.proofs.Sized.{each-true}
use Rattle.journal_exports.specs.Writers.{optional, is_tentative, exported_legacy}
use Rattle.journal_exports.proofs.Arguments.{answer-short, refused_as, written_as}
use Rattle.journal_exports.proofs.writers.gap_quarantine_write_legacy.Goals as goal
use Rattle.journal_exports.proofs.writers.gap_quarantine_write_legacy.Goals.{Else-not-is_legacy}

-- each test of the arguments
abbrev tests : Else-not-is_legacy → List Bool
tests c =
    let a = c.args in
    optional 32 a.frame_hash.now ∷ optional 32 a.top_hash.now ∷ optional 20 a.sender.now ∷ optional 20 a.from.now
    ∷ within 0 1 (a.has_claimed ∷ a.has_frame_nonce ∷ a.has_top_nonce ∷ a.has_expected ∷ a.has_parked_at ∷ a.has_chain_id ∷ a.has_gas ∷ a.rest ∷ [])
    ∷ is_tentative a.kind a.block_hash.now a.by.now ∷ []

-- has passed
passed : (c : Else-not-is_legacy) → Each (λ b. b ≡ true) (tests c)
passed c = each-true (tests c) (sym c.is_legacy.ensures ∙ c.if-not-is_legacy.false)

pub returns-then-not-is_legacy : goal.returns-then-not-is_legacy
unfolding exported_legacy
returns-then-not-is_legacy c = refused_as _ _ c.args.out.now c.number.result c.number.ensures (sym c.is_legacy.ensures ∙ c.if-not-is_legacy.true)

pub optional-requires : goal.optional-requires
optional-requires c = (omega arith, (passed (goal.at.optional-requires c).Else-not-is_legacy).0)

pub optional-requires-2 : goal.optional-requires-2
optional-requires-2 c = (omega arith, (passed (goal.at.optional-requires-2 c).Else-not-is_legacy).1.0)

pub optional-requires-3 : goal.optional-requires-3
optional-requires-3 c = (omega arith, (passed (goal.at.optional-requires-3 c).Else-not-is_legacy).1.1.0)

pub optional-requires-4 : goal.optional-requires-4
optional-requires-4 c = (omega arith, (passed (goal.at.optional-requires-4 c).Else-not-is_legacy).1.1.1.0)

pub tentative-requires : goal.tentative-requires
tentative-requires c = (passed (goal.at.tentative-requires c).Else-not-is_legacy).1.1.1.1.1.0

pub code_of_answer-requires : goal.code_of_answer-requires
code_of_answer-requires c = answer-short _ c.args.out.now (record { answer = answer_seen c.write_legacy.result; out = c.write_legacy.new.out }) c.write_legacy.ensures

pub returns : goal.returns
unfolding exported_legacy
returns c =
    let a = c.args in
    let w = c.write_legacy in
    written_as _ _ a.out.now c.code_of_answer.result (record { answer = answer_seen w.result; out = w.new.out }) c.code_of_answer.ensures
    (w.ensures ∙ (λ i. write (legacy_value (record {
      frame_hash = c.optional.ensures i;
      top_hash = c.optional-2.ensures i;
      claimed = c.number-2.ensures i;
      frame_nonce = c.number-3.ensures i;
      top_nonce = c.number-4.ensures i;
      sender = c.optional-3.ensures i;
      from = c.optional-4.ensures i;
      expected = c.number-5.ensures i;
      parked_at = c.number-6.ensures i;
      chain_id = c.number-7.ensures i;
      gas = c.number-8.ensures i;
      rest = eqb a.rest 1;
      tentative = c.tentative.ensures i;
      ticket = a.ticket;
    })) a.out.now))
    (sym c.is_legacy.ensures ∙ c.if-not-is_legacy.false)
