use native.Mathlib.Omega.{arith}
use mathlib.Core.Path.{refl}
use mathlib.Core.List.{[], ◌∷◌}
use Rattle.wire.specs.Numbers.{digits}
use Rattle.wire.proofs.NumberLaws.{length_digits}
use Rattle.layout.specs.Layout.{join}
use Rattle.journal_writer.proofs.Filling.{begun, put, put_whole, ended, alone}
use Rattle.journal_exports.specs.Export.{frame_bytes}
use borrow.Author.Rules.{rules, length_unmapped}
use Rattle.journal_exports.proofs.output.write_frame.Goals as goal

pub returns : goal.returns
unfolding frame_bytes
returns c =
    let f = c.args.f in
    let fields = f.hash ∷ f.from ∷ digits 8 f.expected ∷ digits 8 f.claim ∷ digits 8 f.chain_id ∷ digits 8 f.gas ∷ digits 8 f.ticket ∷ [] in
    let w = begun c.args.out.now 0 92 fields (omega (arith, c.requires)) in
    let w = put_whole w c.put_bytes.new.out 0 32 (search (rules, length_unmapped)) c.put_bytes.ensures refl refl in
    let w = put_whole w c.put_bytes-2.new.out 32 20 (search (rules, length_unmapped)) c.put_bytes-2.ensures refl refl in
    let w = put w c.put_number.new.out 52 8 (length_digits 8 f.expected) c.put_number.ensures refl refl in
    let w = put w c.put_number-2.new.out 60 8 (length_digits 8 f.claim) c.put_number-2.ensures refl refl in
    let w = put w c.put_number-3.new.out 68 8 (length_digits 8 f.chain_id) c.put_number-3.ensures refl refl in
    let w = put w c.put_number-4.new.out 76 8 (length_digits 8 f.gas) c.put_number-4.ensures refl refl in
    let w = put w c.put_number-5.new.out 84 8 (length_digits 8 f.ticket) c.put_number-5.ensures refl refl in
    alone (ended w refl (join fields) refl) c.requires
