use Rattle.std.specs.Iterator.Adapters.{zip_first, zip_second}
use Rattle.std.specs.Slice.Iter.{iter_rest, chunks_exact_rest, chunks_exact_size}
use mathlib.Core.Path.{◌≡◌}
use lib.ListN.{length}
use Rattle.store_rules.specs.View.{Bodies, held_view}
use Rattle.store_rules.specs.Sweeps.{polls_from, in_turn}
use Rattle.polls.proofs.SweepTurns.{Taken, Sweeping}
use Rattle.polls.proofs.sweeping.polls_in_turn.Given as goal

abbrev pub invariant-loop-sender : goal.invariant-loop-sender
invariant-loop-sender l =
    let f = l.fn in
    let senders = chunks_exact_rest (zip_first (zip_first l.sender-iterator)) in
    let heads = iter_rest (zip_second (zip_first l.sender-iterator)) in
    let counts = iter_rest (zip_second l.sender-iterator) in
    Taken f.rows l.rows l.total senders heads counts l.left
    × ((bodies : Bodies) →
    Sweeping (held_view bodies f.h) (in_turn (held_view bodies f.h) (polls_from f.senders f.heads f.counts f.nonces) (length f.rows)) f.rows (held_view bodies l.h) l.rows l.total senders heads counts l.left)
    × (chunks_exact_size (zip_first (zip_first l.sender-iterator)) ≡ 20)
