-- The totals of request 2027-07, read from a transcript: `totals_told`. Those of shards are added column by column: `add_totals`.
use Rattle.std.specs.Prelude.{ℕ, ◌+◌, ◌≡◌, cond, List, map, length}
use Rattle.lists.specs.Lists.{sum}
use Rattle.store_rules.specs.Store.{Store, empty, Call, Answer, listed}
use Rattle.store_rules.specs.Sweeps.{Item, run_items}
use Rattle.store_rules.specs.Totals.{accepted_in, rescued_in, dead_in, is_eviction, Totals, totals}
use Rattle.order_rule.specs.Orders.{transcript_read, RoomFor}

-- what the lines of a transcript add up to
unfoldable pub added : (Call × Answer → ℕ) → List (Call × Answer) → ℕ
added count lines = sum (map count lines)

-- the totals of the calls that these lines tell of, which lead to this store
unfoldable pub totals_told : Store → List (Call × Answer) → Totals
totals_told s lines =
    record {
      accepted = added (λ t. accepted_in t.1) lines;
      held = length s.entries;
      rescued = added (λ t. rescued_in t.1) lines;
      dead = added (λ t. dead_in t.1) lines;
      evicted = added (λ t. cond (is_eviction t.0) (listed t.1) 0) lines;
    }

unfoldable pub add_totals : Totals → Totals → Totals
add_totals t u =
    record {
      accepted = t.accepted + u.accepted;
      held = t.held + u.held;
      rescued = t.rescued + u.rescued;
      dead = t.dead + u.dead;
      evicted = t.evicted + u.evicted;
    }

-- a run that is not refused for want of room has the totals that its transcript tells
abbrev pub TotalsAreTold : Type 0
TotalsAreTold = (is : List Item) → RoomFor empty is → totals empty is ≡ totals_told (run_items empty is) (transcript_read empty is)
