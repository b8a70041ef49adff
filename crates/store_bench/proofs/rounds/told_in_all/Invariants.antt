use Rattle.std.proofs.Common.{◌≡◌, ◌≤◌, ◌*◌, ℕ}
use denote.Param.Always.{always_mut}
use Rattle.std.specs.Fn.{AlwaysReturns}
use Rattle.store_bench.proofs.rounds.told_in_all.Given as goal

abbrev pub invariant-loop : goal.invariant-loop
invariant-loop g l = record {
  callable : always_mut g.F.FnMut l.call;
  few : AlwaysReturns g.F.FnMut (λ _ n. n ≤ 64) l.call;
  fits : l.seen ≤ 64 * l.counter;
  alike : (each : ℕ) → AlwaysReturns g.F.FnMut (λ _ n. n ≡ each) l.initial.call → AlwaysReturns g.F.FnMut (λ _ n. n ≡ each) l.call × (l.seen ≡ each * l.counter);
}
