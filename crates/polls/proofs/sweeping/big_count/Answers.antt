use Rattle.std.proofs.Common.{rules, ◌<◌, get_or}
use Rattle.std.specs.Prelude.{IsTrue, ◌↔◌, SomeIndex}
use Rattle.polls.proofs.SweepSteps.{any-big}
use Rattle.polls.proofs.sweeping.big_count.Goals as goal

pub returns : goal.returns
returns c =
    let l = c.args.counts.now in
    let k : IsTrue c.any.result ↔ SomeIndex l (λ k. 256 < get_or l k 0) = search rules in
    any-big c.any.result l k
