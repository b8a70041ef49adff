-- Request 2027-03: what a short row says of the nonces that the long row lists, and that short rows tell what long ones do.
use Rattle.std.specs.Prelude.{ℕ, ◌+◌, ◌/◌, ◌%◌, ◌^◌, ◌<◌, ◌≡◌, true, List, map, length, take, drop, get_or}
use Rattle.std.specs.Prelude.{Option, None}
use Rattle.lists.specs.Bytes.{Bytes}
use Rattle.lists.specs.Lists.{is_in, chunks, Each}
use Rattle.short_rows.specs.Mark.{bit, marked_nonces}
use Rattle.short_rows.specs.Reading.{is_nonce, nonces_read}
use Rattle.store_rules.specs.Frames.{nonce_consumed, Row}
use Rattle.store_rules.specs.Poll.{Content}
use Rattle.store_rules.specs.Store.{Store, poll, RowForm, long, short, row_width, Request, Answer, listed, rows_of, refusal, step}
use Rattle.store_rules.specs.Answers.{row_numbers, numbers_of}

-- ---- what a short row says

-- the mark of a row, and the count, as they are written
abbrev pub mark_in : Row → ℕ
mark_in r = get_or (row_numbers short r) 3 0

abbrev pub count_in : Row → ℕ
count_in r = get_or (row_numbers short r) 4 0

-- what they say of the nonces that the long row lists
pub record Says (r : Row) : Type 0 where
  -- the count is their number
  pub counted : count_in r ≡ length r.nonces
  -- the mark has 16 bits, of which bit i is set exactly when expected + i is listed
  pub narrow : mark_in r < 2 ^ 16
  pub bits : (i : ℕ) → i < 16 → mark_in r / 2 ^ i % 2 ≡ bit (is_in (r.frame.expected + i) r.nonces)
  -- NonceConsumed has mark 0
  pub consumed : r.decision ≡ nonce_consumed → mark_in r ≡ 0
  -- of a frame whose claim is a nonce, what is read from the short row is what the long row lists
  pub nonces : is_nonce r.frame.claim ≡ true → nonces_read r.frame.expected (mark_in r) ≡ r.nonces

-- of every store, also of one that no calls lead to
abbrev pub EveryShortRow : Type 0
EveryShortRow = (s : Store) (q : Request) → Each Says (rows_of (step s q).1)

-- ---- short rows and long ones

-- what a row tells in either form
pub record Told : Type 0 where
  pub ticket : ℕ
  pub code : ℕ
  pub nonces : List ℕ

-- the nonces in the numbers of a row: as many as the count says, or those that the mark stands for
unfoldable pub nonces_in : RowForm → List ℕ → List ℕ
nonces_in long numbers = take (get_or numbers 2 0) (drop 3 numbers)
nonces_in short numbers = marked_nonces (get_or numbers 2 0) (get_or numbers 3 0)

unfoldable pub decode : RowForm → List ℕ → Told
decode form numbers = record { ticket = get_or numbers 0 0; code = get_or numbers 1 0; nonces = nonces_in form numbers }

-- the rows that are written of an answer, one by one
unfoldable pub decoded : RowForm → Answer → List Told
decoded form a = map (decode form) (chunks (row_width form) (listed a) (numbers_of form a))

-- two polls that differ in the form of their rows and in what they are lent
pub record SamePoll (s : Store) (q r : Request) : Type 0 where
  pub stores : (step s r).0 ≡ (step s q).0
  -- one for one in order, in ticket, code and nonces
  pub told : decoded r.form (step s r).1 ≡ decoded q.form (step s q).1

-- a poll with rows in this form that is lent so many numbers
abbrev pub polls : RowForm → Bytes → ℕ → List ℕ → Option Content → ℕ → Request
polls form sender head known content numbers = record { call = poll sender head known content; form = form; numbers = numbers; bytes = 0 }

-- where neither is refused
abbrev pub ShortAsLong : Type 0
ShortAsLong = (s : Store) (sender : Bytes) (head : ℕ) (known : List ℕ) (content : Option Content) (n m : ℕ) →
    refusal s (polls long sender head known content n) ≡ None → refusal s (polls short sender head known content m) ≡ None →
    SamePoll s (polls long sender head known content n) (polls short sender head known content m)

-- a slice that is long enough for the long rows is so for the short ones
abbrev pub ShortNeedsLess : Type 0
ShortNeedsLess = (s : Store) (sender : Bytes) (head : ℕ) (known : List ℕ) (content : Option Content) (n : ℕ) →
    refusal s (polls long sender head known content n) ≡ None → refusal s (polls short sender head known content n) ≡ None
