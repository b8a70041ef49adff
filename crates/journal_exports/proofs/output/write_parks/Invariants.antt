use Rattle.lists.proofs.Writing.{Wrote}
use Rattle.std.proofs.Common.{length}
use Rattle.journal_writer.specs.Writing.{park_bytes}
use Rattle.journal_record.specs.View.{park_seen}
use Rattle.journal_exports.proofs.output.write_parks.Given as goal

abbrev pub invariant-loop-i : goal.invariant-loop-i
invariant-loop-i l = Wrote park_seen park_bytes 240 l.parks (length l.parks) l.initial.out l.out l.i
