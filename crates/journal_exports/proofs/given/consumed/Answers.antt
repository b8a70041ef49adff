use native.Mathlib.Omega.{arith}
use mathlib.Core.Path.{ap, ◌∙◌}
use mathlib.Core.Bool.{cond}
use mathlib.Core.List.{[], ◌∷◌}
use borrow.Author.Tests.{eqb-true}
use lib.Dec.{eqb, leb}
use lib.ListN.{length}
use Rattle.journal_record.specs.Records.{mined, slot_taken}
use Rattle.journal_record.specs.View.{kind_seen}
use Rattle.journal_record.proofs.Shown.{kind-seen}
use Rattle.journal_writer.proofs.Sized.{each-true}
use Rattle.journal_exports.specs.Writers.{optional, is_consumed, given_consumed}
use Rattle.journal_exports.proofs.given.consumed.Goals as goal

pub array-requires : goal.array-requires
unfolding is_consumed
array-requires c =
    let a = c.args in
    (omega arith, eqb-true (length a.block_hash.now) 32 (each-true (leb 1 a.kind ∷ leb a.kind 2 ∷ eqb (length a.block_hash.now) 32 ∷ optional 32 a.by.now ∷ []) c.requires).1.1.0)

pub optional-requires : goal.optional-requires
unfolding is_consumed
optional-requires c =
    let a = c.args in
    (omega arith, (each-true (leb 1 a.kind ∷ leb a.kind 2 ∷ eqb (length a.block_hash.now) 32 ∷ optional 32 a.by.now ∷ []) c.requires).1.1.1.0)

pub returns : goal.returns
unfolding given_consumed
returns c =
    let a = c.args in
    let kind = ap kind_seen c.from.ensures ∙ kind-seen (cond (eqb a.kind 1) mined slot_taken) in
    λ i. record { kind = kind i; block = a.block; block_hash = c.array.ensures i; by = c.optional.ensures i }
