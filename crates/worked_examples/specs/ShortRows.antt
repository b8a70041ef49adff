-- Request 2027-03: the short rows of polls of F, and what is read from a mark.
use Rattle.std.specs.Prelude.{ℕ, ◌-◌, ◌^◌, ◌≡◌}
use mathlib.Core.List.{List, [], ◌∷◌}
use Rattle.std.specs.Prelude.{None, Some, slice_get}
use Rattle.short_rows.specs.Reading.{nonces_read}
use Rattle.store_rules.specs.Store.{Call, push, short, Answer, refused, step}
use Rattle.store_rules.specs.Answers.{numbers_of}
use Rattle.worked_examples.specs.Setting.{frame_f, after, polled}

-- what a poll with short rows that is lent so many numbers answers, when F was pushed
unfoldable pub short_answer : ℕ → Call → Answer
short_answer numbers c = (step (after (push frame_f ∷ [])) (record { call = c; form = short; numbers = numbers; bytes = 0 })).1

-- the numbers that it writes, where it is lent five
unfoldable pub short_row : Call → List ℕ
short_row c = numbers_of short (short_answer 5 c)

pub record ShortRows : Type 0 where
  -- of 5, 6 and 7 only 6 is unknown: bit 1
  pub one_unknown : short_row (polled 5 (5 ∷ 7 ∷ [])) ≡ 3 ∷ 3 ∷ 5 ∷ 2 ∷ 1 ∷ []
  -- all are known: bits 0, 1 and 2
  pub all_known : short_row (polled 5 (5 ∷ 6 ∷ 7 ∷ [])) ≡ 3 ∷ 1 ∷ 5 ∷ 7 ∷ 3 ∷ []
  -- the head has passed 5 and 6: bit 2, which stands for 7 at every head
  pub head_within : short_row (polled 7 (7 ∷ [])) ≡ 3 ∷ 1 ∷ 5 ∷ 4 ∷ 1 ∷ []
  -- NonceConsumed: no bit
  pub head_past_claim : short_row (polled 9 []) ≡ 3 ∷ 2 ∷ 5 ∷ 0 ∷ 0 ∷ []
  -- four numbers are too few
  pub four_numbers : short_answer 4 (polled 9 []) ≡ refused 5
  -- read back from expected nonce and mark
  pub nonces : nonces_read 5 6 ≡ 6 ∷ 7 ∷ []
  pub first : slice_get (nonces_read 5 6) 0 ≡ Some 6
  pub no_first : slice_get (nonces_read 5 0) 0 ≡ None
  -- a bit past the last nonce stands for none
  pub past_last : nonces_read (2 ^ 64 - 1) 3 ≡ (2 ^ 64 - 1) ∷ []
