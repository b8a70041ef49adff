use Prim.Native.Nat.{ℕ, ◌+◌, ◌*◌, ◌≤◌, min}
use native.Mathlib.Omega.{arith}
use mathlib.Core.Path.{◌≡◌, refl, ap}
use lib.ListN.{length, length-take, length-drop}
use Rattle.lists.proofs.Compacting.{clamp, long}
use Rattle.store_rules.specs.Store.{row_width}
use Rattle.store_rules.specs.Lookup.{entries_of}
use Rattle.store_rules.specs.View.{entries_seen}
use Rattle.decisions.specs.Courses.{form_of}
use Rattle.polls.proofs.PollTurns.{put-row, begins, silent-one, silent-still, room, stays-one, leaves-one, passes}
use borrow.Author.Rules.{rules}
use Rattle.polls.proofs.polling.pass.Goals as goal
use Rattle.polls.proofs.polling.pass.Goals.{In-Some, After-put_row, then-w-j, else-w-j}

-- one row more fits
fits : (c : In-Some) → c.row_width-width.result * c.loop-j.n + c.row_width-width.result ≤ length c.loop-j.rows
fits c =
    let a = c.args in
    let t = c.loop-j.invariant.0 in
    rw c.row_width-width.ensures (room (form_of a.form) a.poll.now _ _ _ _ _ _ _ _ _ _ _ _ t _ (omega (arith, c.min-j-end.ensures)) c.in-Some.telling c.in-Some.ensures).1

pub loop-j-init : goal.loop-j-init
loop-j-init c =
    let a = c.args in
    let h = a.h.now in
    let whole : length h.entries ≡ 64 = search (rules, long) in
    (begins (form_of a.form) a.poll.now (min h.len 64) h.guards h.entries h.labels (length (entries_of a.poll.now.sender (entries_seen h))) a.rows.now (omega arith) (rw (clamp h.len 64 h.entries whole)) c.requires.room whole, refl)

pub overflow_add-w : goal.overflow_add-w
overflow_add-w c = let t = c.loop-j.invariant.0 in omega (arith, t.behind)

pub loop-j-preserved-in_default : goal.loop-j-preserved-in_default
loop-j-preserved-in_default c =
    let a = c.args in
    let l = c.loop-j in
    let more = c.loop-j-test.true in
    elim c.if-w-j.branch [
      | then-w-j x ↦ rw x.h-is (silent-one (form_of a.form) a.poll.now _ _ _ _ _ _ _ _ _ _ _ _ l.invariant.0 _ (omega (arith, c.min-j-end.ensures)) c.in_default.ensures, l.invariant.1)
      | else-w-j x ↦ rw x.h-is (silent-still (form_of a.form) a.poll.now _ _ _ _ _ _ _ _ _ _ _ _ l.invariant.0 _ (omega (arith, c.min-j-end.ensures)) c.in_default.ensures x.if-w-j.false, l.invariant.1)
    ]

pub overflow_mul-start : goal.overflow_mul-start
overflow_mul-start c = omega (arith, fits c)

pub offset_bounds-rows-start : goal.offset_bounds-rows-start
offset_bounds-rows-start c = omega (arith, fits (goal.at.offset_bounds-rows-start c).In-Some)

pub put_row-requires : goal.put_row-requires
put_row-requires c =
    let f = fits (goal.at.put_row-requires c).In-Some in
    simp (length-take, length-drop) (omega (arith, f, c.row_width-width.ensures))

pub overflow_add-n : goal.overflow_add-n
overflow_add-n c = let t = c.loop-j.invariant.0 in omega (arith, t.few)

pub offset_bounds-h-w-in_default-telling : goal.offset_bounds-h-w-in_default-telling
offset_bounds-h-w-in_default-telling c = let t = c.loop-j.invariant.0 in omega (arith, t.behind)

pub bounds-h-w-in_default-telling : goal.bounds-h-w-in_default-telling
bounds-h-w-in_default-telling c = let t = c.loop-j.invariant.0 in omega (arith, t.behind)

pub overflow_add-w-in_default-telling : goal.overflow_add-w-in_default-telling
overflow_add-w-in_default-telling c = let t = c.loop-j.invariant.0 in omega (arith, t.behind)

pub loop-j-preserved-in_default-telling : goal.loop-j-preserved-in_default-telling
loop-j-preserved-in_default-telling c =
    let a = c.args in
    let l = c.loop-j in
    (stays-one (form_of a.form) a.poll.now _ _ _ _ _ _ _ _ _ _ _ _ l.invariant.0 _ (omega (arith, c.min-j-end.ensures)) c.in-Some.telling c.in-Some.ensures _ (put-row (c.row_width-width.result * l.n) (row_width (form_of a.form) * l.n) _ l.rows _ (ap {B = ℕ} (λ (k : ℕ). k * l.n) c.row_width-width.ensures) c.put_row.ensures) c.in_default-telling.not-Rescued c.stays.result c.stays.ensures.0, l.invariant.1)

pub loop-j-preserved : goal.loop-j-preserved
loop-j-preserved c =
    let a = c.args in
    let l = c.loop-j in
    (leaves-one (form_of a.form) a.poll.now _ _ _ _ _ _ _ _ _ _ _ _ l.invariant.0 _ (omega (arith, c.min-j-end.ensures)) c.in-Some.telling c.in-Some.ensures _ (put-row (c.row_width-width.result * l.n) (row_width (form_of a.form) * l.n) _ l.rows _ (ap {B = ℕ} (λ (k : ℕ). k * l.n) c.row_width-width.ensures) c.put_row.ensures) c.in-Rescued.is _ (λ b. c.drop_guard.ensures b), l.invariant.1)

pub returns : goal.returns
returns c bodies lent =
    let a = c.args in
    let l = c.loop-j in
    passes a.form a.poll.now a.h.now l.h a.rows.now l.rows _ l.n l.w l.j (search (rules, long)) l.invariant.0 (omega (arith, c.min-j-end.ensures)) l.invariant.1 bodies lent
