-- Document 01's sizes of the five records, `Sizes`: QP, QT, QR, QL, QX.
use Rattle.std.specs.Prelude.{◌≡◌}
use Rattle.journal_record.specs.Reading.{park, tentative_entry, resolve, legacy_park, other, size_of}

abbrev pub Sizes : Type 0
Sizes = (size_of park ≡ 240) × (size_of tentative_entry ≡ 120) × (size_of resolve ≡ 47) × (size_of legacy_park ≡ 256) × (size_of other ≡ 10)
