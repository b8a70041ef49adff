use native.Mathlib.Omega.{arith}
use borrow.Author.Rules.{rules}
use Rattle.lists.proofs.Compacting.{long}
use Prim.Native.Nat.{◌≤◌}
use mathlib.Core.Path.{◌≡◌, refl, ap, ◌∙◌}
use lib.ListN.{length, length-take, length-drop, length-append}
use Rattle.short_rows.proofs.Gathering.{lists-front}
use Rattle.store_rules.specs.Store.{row_width}
use Rattle.store_rules.specs.View.{frame_of}
use Rattle.decisions.proofs.RowNumbers.{long-row, long-whole, short_row}
use Rattle.decisions.proofs.rows.put_row.Goals as goal

pub slice_bounds-copy_from_slice-end : goal.slice_bounds-copy_from_slice-end
unfolding row_width
slice_bounds-copy_from_slice-end c = let room : 19 ≤ length c.args.rows.now = rw c.in-Long.is at c.requires in omega arith

pub slice_bounds-copy_from_slice-end-in-Long : goal.slice_bounds-copy_from_slice-end-in-Long
unfolding row_width
slice_bounds-copy_from_slice-end-in-Long c = let room : 19 ≤ length c.args.rows.now = rw c.in-Long.is at c.requires in simp length-take (omega arith)

pub copy_from_slice-requires : goal.copy_from_slice-requires
unfolding row_width
copy_from_slice-requires c = let room : 19 ≤ length c.args.rows.now = rw c.in-Long.is at c.requires in simp length-take (omega arith)

pub slice_bounds-copy_from_slice-end-in-Long-3 : goal.slice_bounds-copy_from_slice-end-in-Long-3
unfolding row_width
slice_bounds-copy_from_slice-end-in-Long-3 c =
    let room : 19 ≤ length c.args.rows.now = rw c.in-Long.is at c.requires in
    let front : length c.copy_from_slice.new.self ≡ 3 = ap length c.copy_from_slice.ensures.after in
    simp (length-append, length-drop) (omega (arith, front))

pub slice_bounds-copy_from_slice-end-in-Short : goal.slice_bounds-copy_from_slice-end-in-Short
unfolding row_width
slice_bounds-copy_from_slice-end-in-Short c = let room : 5 ≤ length c.args.rows.now = rw c.in-Short.is at c.requires in omega arith

pub slice_bounds-copy_from_slice-end-in-Short-2 : goal.slice_bounds-copy_from_slice-end-in-Short-2
unfolding row_width
slice_bounds-copy_from_slice-end-in-Short-2 c = let room : 5 ≤ length c.args.rows.now = rw c.in-Short.is at c.requires in simp length-take (omega arith)

pub copy_from_slice-requires-in-Short : goal.copy_from_slice-requires-in-Short
unfolding row_width
copy_from_slice-requires-in-Short c = let room : 5 ≤ length c.args.rows.now = rw c.in-Short.is at c.requires in simp length-take (omega arith)

pub returns-in-Long : goal.returns-in-Long
returns-in-Long c =
    let s = c.args in
    let d = c.decision_number-decision in
    let l = c.listed-nonces in
    let sixteen : length l.result.at ≡ 16 = search (rules, long) in
    rw (c.in-Long.is, c.copy_from_slice.ensures.after, c.copy_from_slice-in-Long.ensures.after, ← long-row s.telling s.poll.now.head s.poll.now.known.now (frame_of s.frame) d.result d.ensures l.result.count l.result.at l.ensures.count l.ensures.at)
    (long-whole s.frame.ticket d.result l.result.count l.result.at s.rows.now sixteen)

pub returns-in-Short : goal.returns-in-Short
returns-in-Short c =
    let s = c.args in
    let d = c.decision_number-decision in
    let m = c.mark_of-mark in
    rw (c.in-Short.is, c.copy_from_slice-in-Short.ensures.after, ← short_row s.telling s.poll.now.head s.poll.now.known.now (frame_of s.frame) d.result d.ensures m.result _ (m.ensures ∙ rw (lists-front _ _ c.listed-nonces.ensures)) refl)
