-- The running totals of a trace, as the code keeps them: what an answer adds, by what it says and by the rows at the front of the slice.
use Rattle.std.specs.Prelude.{ℕ, ◌+◌, ◌*◌, ◌<◌, Bool, cond, List, eqb, length, get_or}
use Rattle.lists.specs.Lists.{keep, chunks}
use Rattle.store_rules.specs.Store.{row_width}
use Rattle.store_rules.specs.Answers.{Said, says_total, says_rows, says_recorded, says_entered, says_frames, says_dead, says_refused}
use Rattle.trace_totals.specs.declared.Counts.{Counts}
use Rattle.trace_totals.specs.declared.Totals.{Totals}

-- ---- rows

-- a row says Rescue: its second number is 1
unfoldable pub says_rescue : List ℕ → Bool
says_rescue row = eqb (get_or row 1 0) 1

-- how many of the first n rows do, each of so many numbers
unfoldable pub rescue_rows : ℕ → ℕ → List ℕ → ℕ
rescue_rows width n rows = length (keep says_rescue (chunks width n rows))

-- ---- counts

abbrev pub zero : Counts
zero = record { accepted = 0; rescued = 0; dead = 0; evicted = 0 }

-- with so many more of each
abbrev pub plus : Counts → ℕ → ℕ → ℕ → ℕ → Counts
plus c accepted rescued dead evicted =
    record { accepted = c.accepted + accepted; rescued = c.rescued + rescued; dead = c.dead + dead; evicted = c.evicted + evicted }

-- with n more, none of them overflows
pub record Below (c : Counts) (n : ℕ) : Type 0 where
  pub accepts : c.accepted + n < 18446744073709551616
  pub rescues : c.rescued + n < 18446744073709551616
  pub kills : c.dead + n < 18446744073709551616
  pub evicts : c.evicted + n < 18446744073709551616

-- how many numbers are listed
abbrev pub numbers_said : Said → ℕ
numbers_said (says_total n) = 0
numbers_said (says_rows form n) = row_width form * n
numbers_said says_recorded = 0
numbers_said (says_entered b a n) = 0
numbers_said (says_frames n) = n
numbers_said (says_dead n) = 3 * n
numbers_said (says_refused n) = 0

-- the counts after what is said; the frames that are listed have left if the call is an eviction
abbrev pub counted : Counts → Bool → Said → List ℕ → Counts
counted c evicts (says_total n) rows = plus c 1 0 0 0
counted c evicts (says_rows form n) rows = plus c 0 (rescue_rows (row_width form) n rows) 0 0
counted c evicts says_recorded rows = plus c 0 0 0 0
counted c evicts (says_entered b a n) rows = plus c 0 0 0 0
counted c evicts (says_frames n) rows = plus c 0 0 0 (cond evicts n 0)
counted c evicts (says_dead n) rows = plus c 0 0 n 0
counted c evicts (says_refused n) rows = plus c 0 0 0 0

-- the totals of these counts, where so many frames are held
abbrev pub with_held : Counts → ℕ → Totals
with_held c held = record { accepted = c.accepted; held = held; rescued = c.rescued; dead = c.dead; evicted = c.evicted }
