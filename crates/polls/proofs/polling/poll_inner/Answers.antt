use Prim.Native.Nat.{◌*◌, ◌≤◌}
use native.Mathlib.Omega.{arith}
use mathlib.Core.Path.{◌≡◌, sym}
use lib.ListN.{length, length-map}
use Rattle.lists.specs.Bytes.{eq_bytes}
use Rattle.lists.proofs.Elements.{length-keep}
use Rattle.store_rules.specs.Frames.{Entry}
use Rattle.store_rules.specs.Lookup.{entries_of}
use Rattle.store_rules.specs.Store.{row_width}
use Rattle.store_rules.specs.View.{entries_seen}
use Rattle.store_rules.proofs.RowForms.{row_room}
use Rattle.decisions.specs.Courses.{form_of}
use Rattle.polls.proofs.PollSteps.{good-content, many-known, content-bad, short-slice, polled}
use Rattle.polls.proofs.polling.poll_inner.Goals as goal
use Rattle.polls.proofs.polling.poll_inner.Goals.{After-count_of}

-- the room that the rows of the sender's entries take
needs : (c : After-count_of) → c.row_width.result * c.count_of.result ≡ row_width (form_of c.args.form) * length (entries_of c.args.poll.now.sender (entries_seen c.args.h.now))
needs c = rw (c.row_width.ensures, c.count_of.ensures, c.frames.ensures.value)

few : (c : After-count_of) → length (entries_of c.args.poll.now.sender (entries_seen c.args.h.now)) ≤ 64
unfolding entries_of
few c =
    let h = c.args.h.now in
    let most = length-keep (λ (e : Entry). eq_bytes e.frame.from c.args.poll.now.sender) (entries_seen h) in
    let size : length (entries_seen h) ≤ 64 = rw (← c.frames.ensures.value, length-map) c.frames.ensures.few in
    omega (arith, most)

pub returns-then-poll-gt256 : goal.returns-then-poll-gt256
returns-then-poll-gt256 c bodies lent = let a = c.args in many-known a.form bodies a.h.now a.poll.now a.rows.now (omega arith)

pub returns-then-bad_content : goal.returns-then-bad_content
returns-then-bad_content c bodies lent = let a = c.args in content-bad a.form bodies a.h.now a.poll.now a.rows.now (omega arith) (sym c.if-bad_content.ensures)

pub overflow_mul-need : goal.overflow_mul-need
overflow_mul-need c = rw (needs c) (omega (arith, row_room (form_of c.args.form) _ (few c)))

pub returns-then-rows-need : goal.returns-then-rows-need
returns-then-rows-need c bodies lent =
    let a = c.args in
    let n = needs (goal.at.returns-then-rows-need c).After-count_of in
    short-slice a.form bodies a.h.now a.poll.now a.rows.now (omega arith) (sym c.if-bad_content.ensures) (rw n at c.if-rows-need.true)

pub pass-n-requires : goal.pass-n-requires
pass-n-requires c =
    let n = needs (goal.at.pass-n-requires c).After-count_of in
    record { whole = good-content _ (sym c.if-bad_content.ensures); room = rw n at c.if-rows-need.false }

pub returns : goal.returns
returns c bodies lent =
    let a = c.args in
    let n = needs (goal.at.returns c).After-count_of in
    rw c.answer_of.ensures (polled a.form bodies a.h.now a.poll.now a.rows.now (omega arith) (sym c.if-bad_content.ensures) c.pass-n.result c.pass-n.new.h c.pass-n.new.rows (rw n at c.if-rows-need.false) (c.pass-n.ensures bodies lent))
