use Rattle.journal_exports.specs.Export.{turned_away}
use Rattle.journal_exports.proofs.Exporting.{was-refused, no_room, no-totals, went}
use Rattle.journal_exports.proofs.gap_quarantine_fold.Goals as goal

pub returns-in-Err : goal.returns-in-Err
unfolding turned_away
returns-in-Err c =
    let a = c.args in
    rw c.code_of.ensures (was-refused a.journal.now a.out.now a.totals.now c.in-Err.refused c.in-Err.ensures.is)

pub returns-then-out-parks : goal.returns-then-out-parks
unfolding turned_away
returns-then-out-parks c =
    let a = c.args in
    rw c.code_of-then-out-parks.ensures (no_room a.journal.now a.out.now a.totals.now c.in-Ok.folded c.in-Ok.ensures.is c.as_slice-parks.result.now c.as_slice-parks.ensures.seen c.if-out-parks.true)

pub returns-then-totals-ne40 : goal.returns-then-totals-ne40
unfolding turned_away
returns-then-totals-ne40 c =
    let a = c.args in
    rw c.code_of-then-totals-ne40.ensures (no-totals a.journal.now a.out.now a.totals.now c.in-Ok.folded c.in-Ok.ensures.is c.as_slice-parks.result.now c.as_slice-parks.ensures.seen c.if-out-parks.false c.if-totals-ne40.true)

pub returns : goal.returns
returns c =
    let a = c.args in
    went a.journal.now a.out.now a.totals.now c.in-Ok.folded c.in-Ok.ensures.is c.as_slice-parks.result.now c.as_slice-parks.ensures.seen c.if-out-parks.false c.if-totals-ne40.false _ _ c.write_parks.ensures c.write_totals.ensures
