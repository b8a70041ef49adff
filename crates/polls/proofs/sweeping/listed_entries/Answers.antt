use Prim.Native.Nat.{◌/◌}
use native.Mathlib.Omega.{arith}
use lib.ListN.{length}
use Rattle.store_rules.specs.View.{entries_seen}
use Rattle.polls.proofs.ListedSenders.{listed-by-entry, entry_more, entries-end}
use Rattle.polls.proofs.sweeping.listed_entries.Goals as goal

pub loop-e-preserved : goal.loop-e-preserved
loop-e-preserved c =
    let l = c.loop-e in
    let k = entry_more c.args.senders.now c.frames-frames.result.now l.e-index _ _ (omega arith) c.times_listed-count.ensures.0 in
    (omega (arith, c.times_listed-count.ensures.1), omega (arith, k, l.invariant.1))

pub returns : goal.returns
returns c =
    let l = c.loop-e in
    let z = entries-end c.args.senders.now c.frames-frames.result.now l.e-index (omega arith) in
    (rw (listed-by-entry c.args.senders.now (length c.args.senders.now / 20) (entries_seen c.args.h.now), ← c.frames-frames.ensures.value) (omega (arith, z, l.invariant.1)), omega arith)
