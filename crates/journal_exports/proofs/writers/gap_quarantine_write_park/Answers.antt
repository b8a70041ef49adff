use native.Mathlib.Omega.{arith}
use mathlib.Core.Path.{◌≡◌, sym, ◌∙◌}
use mathlib.Core.Bool.{Bool, true}
use mathlib.Core.List.{List, [], ◌∷◌}
use borrow.Author.Tests.{leb-true}
use lib.Dec.{eqb, leb}
use lib.ListN.{length}
use Rattle.layout.specs.Layout.{within}
use Rattle.lists.specs.Lists.{Each}
use Rattle.journal_writer.specs.Writing.{park_value, write}
use Rattle.journal_writer.specs.View.{answer_seen}
use Rattle.journal_writer.proofs.Sized.{each-true}
use Rattle.journal_exports.specs.Writers.{optional, is_tentative, exported_park}
use Rattle.journal_exports.proofs.Arguments.{answer-short, refused_as, written_as}
use Rattle.journal_exports.proofs.writers.gap_quarantine_write_park.Goals as goal
use Rattle.journal_exports.proofs.writers.gap_quarantine_write_park.Goals.{Else-not-is_park}

-- each test of the arguments
abbrev tests : Else-not-is_park → List Bool
tests c =
    let a = c.args in
    leb (length a.text.now) 66 ∷ optional 20 a.from.now ∷ optional 20 a.sender.now ∷ within 0 1 (a.wire ∷ a.list ∷ a.fidelity ∷ []) ∷ is_tentative a.kind a.block_hash.now a.by.now ∷ []

-- has passed
passed : (c : Else-not-is_park) → Each (λ b. b ≡ true) (tests c)
passed c = each-true (tests c) (sym c.is_park.ensures ∙ c.if-not-is_park.false)

pub returns-then-not-is_park : goal.returns-then-not-is_park
unfolding exported_park
returns-then-not-is_park c = refused_as _ _ c.args.out.now c.number.result c.number.ensures (sym c.is_park.ensures ∙ c.if-not-is_park.true)

pub text-requires : goal.text-requires
text-requires c = leb-true (length c.args.text.now) 66 (passed (goal.at.text-requires c).Else-not-is_park).0

pub optional-requires : goal.optional-requires
optional-requires c = (omega arith, (passed (goal.at.optional-requires c).Else-not-is_park).1.0)

pub optional-requires-2 : goal.optional-requires-2
optional-requires-2 c = (omega arith, (passed (goal.at.optional-requires-2 c).Else-not-is_park).1.1.0)

pub tentative-requires : goal.tentative-requires
tentative-requires c = (passed (goal.at.tentative-requires c).Else-not-is_park).1.1.1.1.0

pub code_of_answer-requires : goal.code_of_answer-requires
code_of_answer-requires c = answer-short _ c.args.out.now (record { answer = answer_seen c.write_park.result; out = c.write_park.new.out }) c.write_park.ensures

pub returns : goal.returns
unfolding exported_park
returns c =
    let a = c.args in
    let w = c.write_park in
    written_as _ _ a.out.now c.code_of_answer.result (record { answer = answer_seen w.result; out = w.new.out }) c.code_of_answer.ensures
    (w.ensures ∙ (λ i. write (park_value (record {
      version = a.version;
      text = c.text.ensures i;
      from = c.optional.ensures i;
      sender = c.optional-2.ensures i;
      chain_id = a.chain_id;
      gas = a.gas;
      wire = eqb a.wire 1;
      list = eqb a.list 1;
      claimed = a.claimed_nonce;
      expected = a.expected_nonce;
      parked_at = a.parked_at;
      fidelity = c.fidelity.ensures i;
      tentative = c.tentative.ensures i;
      ticket = a.ticket;
    })) a.out.now))
    (sym c.is_park.ensures ∙ c.if-not-is_park.false)
