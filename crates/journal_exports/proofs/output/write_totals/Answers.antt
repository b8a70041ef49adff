use native.Mathlib.Omega.{arith}
use mathlib.Core.Path.{refl}
use mathlib.Core.List.{[], ◌∷◌}
use Rattle.lists.specs.Lists.{collect}
use Rattle.wire.specs.Numbers.{digits}
use Rattle.wire.proofs.NumberLaws.{length_digits}
use Rattle.layout.specs.Layout.{join}
use Rattle.journal_writer.proofs.Filling.{begun, put, ended, alone}
use Rattle.journal_exports.proofs.output.write_totals.Goals as goal

pub returns : goal.returns
unfolding collect join
returns c =
    let a = c.args in
    let fields = digits 8 a.pending ∷ digits 8 a.sums.skipped ∷ digits 8 a.sums.migrated ∷ digits 8 a.sums.degraded ∷ digits 8 a.end ∷ [] in
    let w = begun a.out.now 0 40 fields (omega (arith, c.requires)) in
    let w = put w c.put_number.new.out 0 8 (length_digits 8 a.pending) c.put_number.ensures refl refl in
    let w = put w c.put_number-2.new.out 8 8 (length_digits 8 a.sums.skipped) c.put_number-2.ensures refl refl in
    let w = put w c.put_number-3.new.out 16 8 (length_digits 8 a.sums.migrated) c.put_number-3.ensures refl refl in
    let w = put w c.put_number-4.new.out 24 8 (length_digits 8 a.sums.degraded) c.put_number-4.ensures refl refl in
    let w = put w c.put_number-5.new.out 32 8 (length_digits 8 a.end) c.put_number-5.ensures refl refl in
    alone (ended w refl (join fields) refl) c.requires
