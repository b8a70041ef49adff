-- What is counted of a call's answer is what the definitions count of it (`adds`).
use Prim.Native.Nat.{ℕ, suc}
use native.Mathlib.Omega.{arith}
use mathlib.Core.Path.{◌≡◌, refl, sym, ap}
use mathlib.Core.Bool.{Bool, true, false, cond}
use mathlib.Core.List.{List, [], ◌∷◌, ◌++◌, append_assoc}
use Rattle.std.specs.Prelude.{Option, None, Some}
use lib.Dec.{eqb}
use lib.ListN.{length, drop}
use lib.Seq.{take_at, drop_at}
use Rattle.lists.specs.Lists.{keep, collect, chunks, written, Each}
use Rattle.lists.proofs.Keeping.{each_of}
use Rattle.lists.proofs.Writing.{collect-length}
use Rattle.store_rules.specs.Frames.{Frame, Decision, rescue, nonce_consumed, still_waiting, Row, Dead}
use Rattle.store_rules.specs.Store.{Store, Call, push, poll, guard, enter_tentative, check_reorg, check_finalized, evict_sender, RowForm, long, short, row_width, Request, Answer, total, rows, recorded, entered, frames, dead, refused, walked, effect, listed, rows_of, refusal, unless, step}
use Rattle.store_rules.specs.Answers.{decision_number, row_numbers, ticket_numbers, dead_numbers, numbers_of, said}
use Rattle.store_rules.specs.Sweeps.{single}
use Rattle.store_rules.specs.Totals.{accepted_in, is_rescue, rescued_in, dead_in, is_eviction, evicted_in}
use Rattle.store_rules.proofs.GapNonces.{gap-few}
use Rattle.store_rules.proofs.PollRows.{Narrow, rows-length, step-narrow}
use Rattle.store_rules.proofs.RowForms.{row-length}
use Rattle.trace_totals.specs.Counting.{says_rescue, rescue_rows, plus, numbers_said, counted}
use Rattle.trace_totals.specs.declared.Counts.{Counts}

-- ---- rows

code-says : (d : Decision) → eqb (decision_number d) 1 ≡ is_rescue d
unfolding decision_number is_rescue
code-says rescue = refl
code-says nonce_consumed = refl
code-says still_waiting = refl

row-says : (form : RowForm) (r : Row) → says_rescue (row_numbers form r) ≡ is_rescue r.decision
unfolding says_rescue row_numbers
row-says long r = code-says r.decision
row-says short r = code-says r.decision

rows-say : (form : RowForm) (l : List Row) (past : List ℕ) → Each Narrow l →
    rescue_rows (row_width form) (length l) (collect (row_numbers form) l ++ past) ≡ length (keep (λ (r : Row). is_rescue r.decision) l)
unfolding rescue_rows collect chunks keep
rows-say form [] past h = refl
rows-say form (r ∷ l) past h =
    let w = row-length form r (gap-few r.frame r.nonces h.0.ascending) in
    rw
    (append_assoc (row_numbers form r) (collect (row_numbers form) l) past, take_at (row_numbers form r) (collect (row_numbers form) l ++ past) (row_width form) w, drop_at (row_numbers form r) (collect (row_numbers form) l ++ past) (row_width form) w, row-says form r)
    (go (is_rescue r.decision) (rows-say form l past h.1))
  where
    go : (b : Bool) → length (keep says_rescue (chunks (row_width form) (length l) (collect (row_numbers form) l ++ past))) ≡ length (keep (λ (x : Row). is_rescue x.decision) l) →
        length (cond b (row_numbers form r ∷ keep says_rescue (chunks (row_width form) (length l) (collect (row_numbers form) l ++ past))) (keep says_rescue (chunks (row_width form) (length l) (collect (row_numbers form) l ++ past))))
        ≡ length (cond b (r ∷ keep (λ (x : Row). is_rescue x.decision) l) (keep (λ (x : Row). is_rescue x.decision) l))
    go true e = ap suc e
    go false e = e

-- ---- one answer

ticket-one : (f : Frame) → length (ticket_numbers f) ≡ 1
unfolding ticket_numbers
ticket-one f = refl

dead-three : (d : Dead) → length (dead_numbers d) ≡ 3
unfolding dead_numbers
dead-three d = refl

-- as many numbers are said to be listed as are written
said-numbers : (form : RowForm) (a : Answer) → Each Narrow (rows_of a) → numbers_said (said form a) ≡ length (numbers_of form a)
unfolding said numbers_of rows_of
said-numbers form (total n) h = refl
said-numbers form (rows l) h = sym (rows-length form l h)
said-numbers form recorded h = refl
said-numbers form (entered (Some w)) h = refl
said-numbers form (entered None) h = refl
said-numbers form (frames l) h = omega (arith, collect-length ticket_numbers 1 l (each_of _ l (λ f m. ticket-one f)))
said-numbers form (dead l) h = sym (collect-length dead_numbers 3 l (each_of _ l (λ d m. dead-three d)))
said-numbers form (refused n) h = refl

module _ (c : Counts) (form : RowForm) (slice : List ℕ) where
  -- one that is not an eviction's
  answer-adds : (a : Answer) → Each Narrow (rows_of a) → counted c false (said form a) (written (numbers_of form a) slice) ≡ plus c (accepted_in a) (rescued_in a) (dead_in a) 0
  unfolding said numbers_of accepted_in rescued_in dead_in rows_of keep
  answer-adds (total n) h = refl
  answer-adds (rows l) h = rw (rows-say form l (drop (length (collect (row_numbers form) l)) slice) h)
  answer-adds recorded h = refl
  answer-adds (entered (Some w)) h = refl
  answer-adds (entered None) h = refl
  answer-adds (frames l) h = refl
  answer-adds (dead l) h = refl
  answer-adds (refused n) h = refl

  done-adds : (o : Option ℕ) (s : Store) (call : Call) → Each Narrow (rows_of (unless o s (effect s call)).1) →
      counted c (is_eviction call) (said form (unless o s (effect s call)).1) (written (numbers_of form (unless o s (effect s call)).1) slice)
      ≡ plus c (accepted_in (unless o s (effect s call)).1) (rescued_in (unless o s (effect s call)).1) (dead_in (unless o s (effect s call)).1) (cond (is_eviction call) (listed (unless o s (effect s call)).1) 0)
  unfolding unless effect walked said numbers_of accepted_in rescued_in dead_in listed rows_of keep
  done-adds o s (push f) h = answer-adds (unless o s (effect s (push f))).1 h
  done-adds o s (poll a head known content) h = answer-adds (unless o s (effect s (poll a head known content))).1 h
  done-adds o s (guard g) h = answer-adds (unless o s (effect s (guard g))).1 h
  done-adds o s (enter_tentative x t) h = answer-adds (unless o s (effect s (enter_tentative x t))).1 h
  done-adds o s (check_reorg b canonical) h = answer-adds (unless o s (effect s (check_reorg b canonical))).1 h
  done-adds o s (check_finalized n) h = answer-adds (unless o s (effect s (check_finalized n))).1 h
  done-adds None s (evict_sender a) h = refl
  done-adds (Some n) s (evict_sender a) h = refl

-- ---- a call

module _ (s : Store) (q : Request) where
  pub adds : (c : Counts) (slice : List ℕ) →
      counted c (is_eviction q.call) (said q.form (step s q).1) (written (numbers_of q.form (step s q).1) slice)
      ≡ plus c (accepted_in (step s q).1) (rescued_in (step s q).1) (dead_in (step s q).1) (evicted_in (single q) (step s q).1)
  unfolding step evicted_in
  adds c slice = done-adds c q.form slice (refusal s q) s q.call (step-narrow s q)

  pub numbers-said : numbers_said (said q.form (step s q).1) ≡ length (numbers_of q.form (step s q).1)
  numbers-said = said-numbers q.form (step s q).1 (step-narrow s q)
