use native.Mathlib.Omega.{arith}
use mathlib.Core.Path.{sym}
use Rattle.polls.proofs.SweepSteps.{agree, senders-count, sums, bad-lists, bad_sum_lem, big, short-slice, swept}
use Rattle.polls.proofs.sweeping.sweep_held.Goals as goal

pub returns-then-bad_lists : goal.returns-then-bad_lists
returns-then-bad_lists c bodies = let a = c.args in bad-lists bodies a.h.now a.senders.now a.heads.now a.counts.now a.nonces.now a.rows.now (sym c.if-bad_lists.ensures)

pub returns-then-bad_sum : goal.returns-then-bad_sum
returns-then-bad_sum c bodies =
    let a = c.args in
    bad_sum_lem bodies a.h.now a.senders.now a.heads.now a.counts.now a.nonces.now a.rows.now (sym c.if-bad_lists.ensures) (sym c.if-bad_sum.ensures)

pub returns-then-big_count : goal.returns-then-big_count
returns-then-big_count c bodies =
    let a = c.args in
    big bodies a.h.now a.senders.now a.heads.now a.counts.now a.nonces.now a.rows.now (sym c.if-bad_lists.ensures) (sym c.if-bad_sum.ensures) (sym c.if-big_count.ensures)

pub listed_entries-requires : goal.listed_entries-requires
listed_entries-requires c =
    let a = c.args in
    let g = agree a.senders.now a.heads.now a.counts.now (sym c.if-bad_lists.ensures) in
    (omega (arith, g.1), omega (arith, g.0, g.1))

pub returns-then-rows-listed_entries : goal.returns-then-rows-listed_entries
returns-then-rows-listed_entries c bodies =
    let a = c.args in
    let n = senders-count a.senders.now a.heads.now a.counts.now (sym c.if-bad_lists.ensures) in
    short-slice bodies a.h.now a.senders.now a.heads.now a.counts.now a.nonces.now a.rows.now (sym c.if-bad_lists.ensures) (sym c.if-bad_sum.ensures) (sym c.if-big_count.ensures)
    (omega (arith, rw n at c.listed_entries.ensures.0))

pub polls_in_turn-n-requires : goal.polls_in_turn-n-requires
polls_in_turn-n-requires c =
    let a = c.args in
    let g = agree a.senders.now a.heads.now a.counts.now (sym c.if-bad_lists.ensures) in
    (g.1, g.2, sums a.counts.now a.nonces.now (sym c.if-bad_sum.ensures))

pub returns : goal.returns
returns c bodies =
    let a = c.args in
    let n = senders-count a.senders.now a.heads.now a.counts.now (sym c.if-bad_lists.ensures) in
    swept bodies a.h.now a.senders.now a.heads.now a.counts.now a.nonces.now a.rows.now (sym c.if-bad_lists.ensures) (sym c.if-bad_sum.ensures) (sym c.if-big_count.ensures)
    (omega (arith, rw n at c.listed_entries.ensures.0)) _ _ _ (c.polls_in_turn-n.ensures bodies)
