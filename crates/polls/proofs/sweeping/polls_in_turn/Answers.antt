use Prim.Native.Nat.{ℕ, ◌-◌, ◌*◌, ◌≤◌}
use native.Mathlib.Omega.{arith}
use mathlib.Core.Path.{◌≡◌, refl, ap, ◌∙◌}
use mathlib.Core.List.{List, [], ◌∷◌, ◌++◌}
use Rattle.std.specs.Prelude.{None}
use mathlib.Core.Logic.{inl, inr}
use Rattle.std.proofs.lemmas.List.{nil_from_length}
use Rattle.std.specs.Iterator.Adapters.{zip_first, zip_second, zip_steps}
use Rattle.std.specs.Slice.Iter.{iter_rest, iter_steps, chunks_exact_rest, chunks_exact_steps}
use lib.ListN.{length, take, drop}
use lib.Seq.{take_all}
use Rattle.store_rules.specs.Store.{long}
use Rattle.store_rules.specs.Answers.{says_rows, said, numbers_of, bytes_of}
use Rattle.store_rules.specs.Sweeps.{polls_in, sweep_effect}
use Rattle.store_rules.specs.View.{Bodies, bodies_of, held_view}
use Rattle.polls.proofs.PollSteps.{rows-not-refused}
use borrow.Author.Rules.{rules}
use Rattle.polls.proofs.SweepTurns.{Taken, enough-nonces, part_length, rows_fit, starts, done, turn_by}
use Rattle.polls.proofs.sweeping.polls_in_turn.Goals as goal
use Rattle.polls.proofs.sweeping.polls_in_turn.Goals.{In-Some, After-rows_of-total}

-- what is left, by its first
taken : (c : In-Some) →
    Taken c.args.rows.now c.loop-sender.rows c.loop-sender.total
    (c.in-Some.sender.now ++ chunks_exact_rest (zip_first (zip_first c.next.new.self)))
    (c.in-Some.head.now ∷ iter_rest (zip_second (zip_first c.next.new.self)))
    (c.in-Some.count.now ∷ iter_rest (zip_second c.next.new.self))
    c.loop-sender.left.now
taken c =
    let s = c.in-Some.ensures.steps in
    rw (s.0.0.1.0, s.0.1, s.1) at c.loop-sender.invariant.0

wide : (c : In-Some) → length c.in-Some.sender.now ≡ 20
wide c = let s = c.in-Some.ensures.steps in s.0.0.1.1 ∙ c.loop-sender.invariant.2

pub loop-sender-init : goal.loop-sender-init
loop-sender-init c =
    let a = c.args in
    let i = c.chunks_exact in
    rw
    (c.into_iter-sender-iterator.ensures.into_iter_gives, c.zip-sender-items.ensures.first, c.zip-sender-items.ensures.second.0, c.zip.ensures.first, c.zip.ensures.second.0, i.ensures.rest, i.ensures.size) (
      record { summed = c.requires.2; sent = c.requires.0; counted = c.requires.1; same = refl; fits = omega arith },
      λ bodies. starts _ _ _ _ _ _ _ refl,
      refl,
    )

pub split_at-requires : goal.split_at-requires
split_at-requires c = enough-nonces (taken (goal.at.split_at-requires c).In-Some)

pub array_at-requires : goal.array_at-requires
array_at-requires c = omega (arith, wide (goal.at.array_at-requires c).In-Some)

-- the sender is its part of the list
module _ (c : After-rows_of-total) where
  abbrev part : List ℕ
  part = take (length c.loop-sender.rows - 19 * c.loop-sender.total) (drop (19 * c.loop-sender.total) c.loop-sender.rows)

  sent : c.array_at.result ≡ c.in-Some.sender.now
  sent =
      let w : length c.in-Some.sender.now ≡ 20 = c.in-Some.ensures.steps.0.0.1.1 ∙ c.loop-sender.invariant.2 in
      c.array_at.ensures ∙ take_all 20 c.in-Some.sender.now (omega arith)

  room : 19 * c.rows_of-total.result ≤ length part
  room =
      let g = c.poll_inner-answer.ensures (bodies_of [] []) tt in
      rows_fit (held_view (bodies_of [] []) c.loop-sender.h) c.array_at.result c.in-Some.head.now c.split_at.result.0.now part c.poll_inner-answer.new.rows _ _ g.answer c.rows_of-total.ensures g.numbers_after (search rules)

pub overflow_add-total : goal.overflow_add-total
overflow_add-total c =
    let l = c.loop-sender in
    omega (arith, room (goal.at.overflow_add-total c).After-rows_of-total, part_length l.rows (19 * l.total), l.invariant.0.fits, l.invariant.0.same)

pub loop-sender-preserved : goal.loop-sender-preserved
loop-sender-preserved c =
    let l = c.loop-sender in
    let p = goal.at.loop-sender-preserved c in
    let t = taken p.In-Some in
    let s = c.in-Some.ensures.steps in
    let turned : (bodies : Bodies) → _ = λ bodies.
    let g = rw (sent p.After-rows_of-total, c.split_at.ensures.front) at c.poll_inner-answer.ensures bodies tt in
    turn_by _ _ _ (held_view bodies l.h) l.rows l.total c.in-Some.sender.now _ c.in-Some.head.now c.in-Some.count.now _ _ l.left.now (wide p.In-Some) (rw (s.0.0.1.0, s.0.1, s.1) at l.invariant.1 bodies) t (enough-nonces t)
    _ refl c.rows_of-total.result _ (held_view bodies c.poll_inner-answer.new.h) c.poll_inner-answer.new.rows g.answer c.rows_of-total.ensures g.store g.numbers_after (search rules) in
    rw c.split_at.ensures.back ((turned (bodies_of [] [])).0, λ bodies. (turned bodies).1, s.0.0.0 ∙ l.invariant.2)

pub returns : goal.returns
unfolding sweep_effect polls_in said numbers_of bytes_of
returns c bodies =
    let l = c.loop-sender in
    let it = l.sender-iterator in
    let t = l.invariant.0 in
    let heads : length (iter_rest (zip_second (zip_first it))) ≡ 0 = none c.in-None.ensures.steps in
    let d = done _ _ _ (held_view bodies l.h) l.rows l.total _ _ _ (rw (nil_from_length (iter_rest (zip_second (zip_first it))) heads) at l.invariant.1 bodies) in
    record { store = d.0; answer = ap (says_rows long) d.1; numbers_after = d.2; bytes_after = refl; kept = λ n e. absurd (rows-not-refused e) }
  where
    none : zip_steps (zip_steps chunks_exact_steps iter_steps) iter_steps c.loop-sender.sender-iterator None c.next.new.self → length (iter_rest (zip_second (zip_first c.loop-sender.sender-iterator))) ≡ 0
    none (inl a) = inner a.1
      where
        inner : zip_steps chunks_exact_steps iter_steps (zip_first c.loop-sender.sender-iterator) None a.0 → length (iter_rest (zip_second (zip_first c.loop-sender.sender-iterator))) ≡ 0
        inner (inl b) = omega (arith, b.1.1.0, c.loop-sender.invariant.0.sent, c.loop-sender.invariant.2)
        inner (inr b) = b.1.0
    none (inr a) = omega (arith, a.1.0, c.loop-sender.invariant.0.counted)
