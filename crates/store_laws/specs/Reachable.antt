-- What holds of every store that calls and sweeps lead to from an empty one, and of the gap of every frame in it.
use Rattle.std.specs.Prelude.{ℕ, ◌≤◌, ◌-◌, ◌≡◌, false, ◌&&◌, List, leb, ltb, length}
use Rattle.lists.specs.Bytes.{eq_bytes}
use Rattle.lists.specs.Lists.{Each, Pairwise, is_in, numbers_from}
use Rattle.store_rules.specs.Frames.{Frame, Guard}
use Rattle.store_rules.specs.Poll.{gap}
use Rattle.store_rules.specs.Store.{Store, empty, Sorted, wide_gap}
use Rattle.store_rules.specs.Sweeps.{Item, run_items}

pub record Reachable (s : Store) : Type 0 where
  -- in walk order
  pub sorted : Sorted s.entries
  pub entries : length s.entries ≤ 64
  pub guards : length s.guards ≤ 64
  -- one guard a hash
  pub one_guard : Pairwise (λ (g x : Guard). eq_bytes g.hash x.hash ≡ false) s.guards
  -- no claim exceeds expected by more than 16
  pub narrow_gaps : Each (λ e. wide_gap e.frame ≡ false) s.entries

abbrev pub EveryRun : Type 0
EveryRun = (is : List Item) → Reachable (run_items empty is)

-- the gap of such a frame is, ascending, every n with expected <= n < claim
pub record WholeGap (f : Frame) : Type 0 where
  pub ascending : gap f ≡ numbers_from f.expected (f.claim - f.expected)
  pub every : (n : ℕ) → is_in n (gap f) ≡ (leb f.expected n && ltb n f.claim)

abbrev pub GapIsWhole : Type 0
GapIsWhole = (f : Frame) → wide_gap f ≡ false → WholeGap f
