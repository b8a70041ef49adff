use Rattle.journal_exports.proofs.Exporting.{frame_refused, frame-short, frame-went}
use Rattle.journal_exports.proofs.gap_quarantine_restore.Goals as goal

pub returns-in-Err : goal.returns-in-Err
returns-in-Err c =
    let a = c.args in
    rw c.number.ensures (frame_refused a.bytes.now a.frame.now c.in-Err.refusal c.in-Err.ensures)

pub returns-then-frame-ne92 : goal.returns-then-frame-ne92
returns-then-frame-ne92 c =
    let a = c.args in
    rw c.number-then-frame-ne92.ensures (frame-short a.bytes.now a.frame.now c.in-Ok.restored c.in-Ok.ensures c.if-frame-ne92.true)

pub returns : goal.returns
returns c =
    let a = c.args in
    frame-went a.bytes.now a.frame.now c.in-Ok.restored c.in-Ok.ensures c.if-frame-ne92.false c.write_frame.new.out c.write_frame.ensures
