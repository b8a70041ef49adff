-- The stores that the loops run on, filled frame by frame, and the addresses of a sweep, one by one.
use Prim.Native.Nat.{ℕ, ◌+◌, ◌*◌}
use mathlib.Core.Path.{◌≡◌, refl}
use mathlib.Core.Bool.{Bool}
use native.Mathlib.Numerals.{add-one}
use lib.ListN.{replicate, set}
use Rattle.store_rules.specs.Store.{empty, push, guard}
use Rattle.store_bench.specs.Loads.{whose, frame_by, frame, guard_at, after, filled, guarded_by, addresses}

module _ (apart : Bool) where
  pub filled_none : empty ≡ filled apart 0
  unfolding filled
  filled_none = refl

  pub filled_more : (n : ℕ) → after (filled apart n) (push (frame_by (whose apart n) n)) ≡ filled apart (n + 1)
  unfolding filled
  filled_more n = rw (add-one n)

pub guarded-none : empty ≡ guarded_by 0
unfolding guarded_by
guarded-none = refl

pub guarded-more : (n : ℕ) → after (after (guarded_by n) (push (frame n))) (guard (guard_at n)) ≡ guarded_by (n + 1)
unfolding guarded_by
guarded-more n = rw (add-one n)

pub no_address : replicate 1280 1 ≡ addresses 0
unfolding addresses
no_address = refl

pub one_address : (n : ℕ) → set (addresses n) (20 * n) n ≡ addresses (n + 1)
unfolding addresses
one_address n = rw (add-one n)
