-- Request 2027-05: a sweep, which polls many senders in one call. It is its list of polls, run by `step` one after another.
use Rattle.std.specs.Prelude.{ℕ, ◌*◌, ◌-◌, Bool, ◌||◌, not, List, [], ◌∷◌, ◌++◌, map, eqb, ltb, length, take, drop}
use Rattle.std.specs.Prelude.{Option, None}
use Rattle.std.specs.Option.{option_or}
use Rattle.lists.specs.Bytes.{Bytes}
use Rattle.lists.specs.Lists.{keep, is_empty, sum, chunks}
use Rattle.store_rules.specs.Frames.{Entry, Row}
use Rattle.store_rules.specs.Lookup.{entries_of}
use Rattle.store_rules.specs.Store.{Store, Call, poll, long, Request, Answer, rows, rows_of, when, unless, step, run}
use Rattle.store_rules.specs.Answers.{numbers_of}

-- the inputs of a sweep, and the length of the slice of numbers lent to it
pub record Sweep : Type 0 where
  -- 20 bytes a sender
  pub senders : Bytes
  pub heads : List ℕ
  -- how many of the nonces each sender takes
  pub counts : List ℕ
  pub nonces : List ℕ
  pub numbers : ℕ

-- ---- its polls

-- each sender takes its count of the nonces in turn; no content is given
unfoldable pub polls_from : Bytes → List ℕ → List ℕ → List ℕ → List Call
polls_from senders [] counts nonces = []
polls_from senders (h ∷ hs) [] nonces = []
polls_from senders (h ∷ hs) (c ∷ cs) nonces = poll (take 20 senders) h (take c nonces) None ∷ polls_from (drop 20 senders) hs cs (drop c nonces)

abbrev pub polls_of : Sweep → List Call
polls_of w = polls_from w.senders w.heads w.counts w.nonces

-- a poll that is lent so many numbers
abbrev pub lent : Call → ℕ → Request
lent call numbers = record { call = call; form = long; numbers = numbers; bytes = 0 }

-- polls one after another from this store, each lent the part of so many numbers that the polls before it left
unfoldable pub in_turn : Store → List Call → ℕ → List Request
in_turn s [] numbers = []
in_turn s (c ∷ cs) numbers =
    let r = step s (lent c numbers) in
    lent c numbers ∷ in_turn r.0 cs (numbers - length (numbers_of long r.1))

unfoldable pub polls_in : Store → Sweep → List Request
polls_in s w = in_turn s (polls_of w) w.numbers

-- the rows that calls list, one after another
unfoldable pub rows_listed : Store → List Request → List Row
rows_listed s [] = []
rows_listed s (q ∷ qs) = rows_of (step s q).1 ++ rows_listed (step s q).0 qs

-- ---- its refusals, in their order

-- 17: over 64 senders, not 20 sender bytes for each head, or not a count for each head
unfoldable pub bad_lists : Bytes → List ℕ → List ℕ → Bool
bad_lists senders heads counts =
    ltb 64 (length heads) || (not (eqb (length senders) (20 * length heads)) || not (eqb (length heads) (length counts)))

-- 18: counts not summing to the nonce list's length
unfoldable pub bad_sum : List ℕ → List ℕ → Bool
bad_sum counts nonces = not (eqb (sum counts) (length nonces))

-- 3: a count over 256
unfoldable pub big_count : List ℕ → Bool
big_count counts = not (is_empty (keep (λ n. ltb 256 n) counts))

unfoldable pub sweep_input_refusal : Sweep → Option ℕ
sweep_input_refusal w =
    option_or (when (bad_lists w.senders w.heads w.counts) 17) (option_or (when (bad_sum w.counts w.nonces) 18) (when (big_count w.counts) 3))

-- the entries of the senders, summed over so many of them; a sender listed twice counts twice
unfoldable pub listed_entries : Bytes → ℕ → List Entry → ℕ
listed_entries senders n es = sum (map (λ a. length (entries_of a es)) (chunks 20 n senders))

-- 5: the slice is shorter than 19 times the entries at entry
unfoldable pub sweep_room_refusal : Store → Sweep → Option ℕ
sweep_room_refusal s w = when (ltb w.numbers (19 * listed_entries w.senders (length w.heads) s.entries)) 5

unfoldable pub sweep_refusal : Store → Sweep → Option ℕ
sweep_refusal s w = option_or (sweep_input_refusal w) (sweep_room_refusal s w)

-- ---- the call

-- the store after its polls, and all their rows
unfoldable pub sweep_effect : Store → Sweep → Store × Answer
sweep_effect s w = (run s (polls_in s w), rows (rows_listed s (polls_in s w)))

unfoldable pub sweep_step : Store → Sweep → Store × Answer
sweep_step s w = unless (sweep_refusal s w) s (sweep_effect s w)

-- ---- lists in which sweeps stand among the calls

pub data Item : Type 0 where
  single : Request → Item
  sweep : Sweep → Item

unfoldable pub step_item : Store → Item → Store × Answer
step_item s (single q) = step s q
step_item s (sweep w) = sweep_step s w

unfoldable pub run_items : Store → List Item → Store
run_items s [] = s
run_items s (i ∷ is) = run_items (step_item s i).0 is
