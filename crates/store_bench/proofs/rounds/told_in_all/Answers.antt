use Rattle.std.proofs.Common.{arith, ◌≡◌, refl, min}
use denote.Param.Always.{mut_next}
use Rattle.store_bench.proofs.Calls.{one_called}
use Rattle.store_bench.proofs.rounds.told_in_all.Goals as goal

pub overflow_add-seen : goal.overflow_add-seen
overflow_add-seen g c = omega (arith, c.loop.invariant.fits, (one_called g.F.FnMut c.loop.invariant.few c.call-seen.ensures).0)

pub loop-preserved : goal.loop-preserved
loop-preserved g c =
    let l = c.loop.invariant in
    let few = one_called g.F.FnMut l.few c.call-seen.ensures in
    record {
      callable = mut_next _ _ _ _ _ _ c.call-seen.ensures refl l.callable;
      few = few.1;
      fits = omega (arith, l.fits, few.0);
      alike = λ each all.
          let more = one_called g.F.FnMut (l.alike each all).0 c.call-seen.ensures in (more.1, rw (more.0, (l.alike each all).1) (omega arith));
    }

pub returns : goal.returns
returns g c = λ each all. let end : c.loop.counter ≡ min c.args.rounds 4294967296 = omega arith in rw (← end) (c.loop.invariant.alike each all).1
