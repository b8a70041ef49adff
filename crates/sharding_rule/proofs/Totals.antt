-- The totals of a run with room are those that its transcript tells (`Totals.TotalsAreTold`): `totals-are-told`.
use Prim.Native.Nat.{ℕ, ◌+◌, ◌*◌, ◌-◌}
use native.Mathlib.Omega.{arith}
use mathlib.Core.Path.{◌≡◌, refl, sym, ap, ap₂, ◌∙◌}
use mathlib.Core.Bool.{Bool, true, false, cond, true≢false}
use mathlib.Core.List.{List, [], ◌∷◌, ◌++◌, map}
use Rattle.std.specs.Prelude.{Option, None, Some}
use Rattle.std.specs.Option.{option_or}
use lib.Dec.{ltb}
use lib.ListN.{length, take, drop}
use Rattle.lists.specs.Bytes.{Bytes}
use Rattle.lists.specs.Lists.{keep, Each, sum}
use Rattle.lists.proofs.Keeping.{each_map}
use Rattle.store_rules.specs.Frames.{Row}
use Rattle.store_rules.specs.Answers.{numbers_of}
use Rattle.store_rules.specs.Store.{Store, empty, Call, poll, long, Request, Answer, rows, refused, rows_of, listed, when, unless, step}
use Rattle.store_rules.specs.Sweeps.{Sweep, polls_from, lent, in_turn, polls_in, rows_listed, sweep_input_refusal, listed_entries, sweep_room_refusal, sweep_refusal, sweep_effect, sweep_step, Item, single, sweep, step_item}
use Rattle.store_rules.specs.Totals.{accepted_in, rescued_in, dead_in, is_eviction, evicted_in, answers, totals}
use Rattle.order_rule.specs.Orders.{shown, transcript, about_room, unrefused, requests_of, transcript_read, RoomFor}
use Rattle.order_rule.proofs.Ideal.{shown-same}
use Rattle.order_rule.proofs.Sweeps.{AnswersRows, sweep-answers}
use Rattle.store_laws.proofs.Totals.{rescues-append}
use Rattle.sharding_rule.specs.Totals.{added, totals_told, TotalsAreTold}

-- ---- lines, added up

pub added-append : (count : Call × Answer → ℕ) (xs ys : List (Call × Answer)) → added count (xs ++ ys) ≡ added count xs + added count ys
unfolding added sum
added-append count [] ys = omega arith
added-append count (x ∷ xs) ys = let ih = added-append count xs ys in omega arith

pub added_none : (count : Call × Answer → ℕ) (xs : List (Call × Answer)) → Each (λ t. count t ≡ 0) xs → added count xs ≡ 0
unfolding added sum
added_none count [] h = refl
added_none count (x ∷ xs) h = omega (arith, h.0, added_none count xs h.1)

-- ---- one column: what an item adds, and what a line does

module _ (of_item : Item → Answer → ℕ) (of_line : Call × Answer → ℕ)
    (of-single : (q : Request) (a : Answer) → of_item (single q) a ≡ of_line (q.call, shown a))
    (of-refused : (w : Sweep) (n : ℕ) → of_item (sweep w) (refused n) ≡ 0)
    (of-polls : (s : Store) (w : Sweep) → Each AnswersRows (transcript s (polls_in s w)) →
    of_item (sweep w) (rows (rows_listed s (polls_in s w))) ≡ added of_line (transcript s (polls_in s w))) where
  item-adds : (s : Store) (i : Item) → about_room (step_item s i).1 ≡ false → of_item i (step_item s i).1 ≡ added of_line (transcript s (requests_of s i))
  unfolding step_item requests_of transcript added sum sweep_step sweep_refusal sweep_room_refusal sweep_effect unless unrefused when about_room
  item-adds s (single q) h = let e = of-single q (step s q).1 in omega arith
  item-adds s (sweep w) h = go (sweep_input_refusal w) refl (ltb w.numbers (19 * listed_entries w.senders (length w.heads) s.entries)) refl h
    where
      go : (o : Option ℕ) → sweep_input_refusal w ≡ o → (b : Bool) → ltb w.numbers (19 * listed_entries w.senders (length w.heads) s.entries) ≡ b →
          about_room (unless (option_or o (when b 5)) s (sweep_effect s w)).1 ≡ false →
          of_item (sweep w) (unless (option_or o (when b 5)) s (sweep_effect s w)).1 ≡ added of_line (transcript s (unrefused o (polls_in s w)))
      go (Some n) p b q h = of-refused w n
      go None p true q h = absurd (true≢false h)
      go None p false q h = of-polls s w (sweep-answers s w (rw (p, q)))

  column : (s : Store) (is : List Item) → RoomFor s is → sum (map (λ x. of_item x.0 x.1) (answers s is)) ≡ added of_line (transcript_read s is)
  unfolding answers transcript_read added sum
  column s [] h = refl
  column s (i ∷ is) h =
      ap₂ ◌+◌ (item-adds s i h.0) (column (step_item s i).0 is h.1)
      ∙ sym (added-append of_line (transcript s (requests_of s i)) (transcript_read (step_item s i).0 is))

-- ---- the columns

-- a sweep's polls, of which each answers rows
polls-add-none : (count : Call × Answer → ℕ) → ((c : Call) (l : List Row) → count (c, rows l) ≡ 0) → (lines : List (Call × Answer)) → Each AnswersRows lines → 0 ≡ added count lines
polls-add-none count h lines a =
    sym (added_none count lines
    (each_map AnswersRows (λ t. count t ≡ 0) lines (λ t r. ap (λ (x : Answer). count (t.0, x)) r.1 ∙ h t.0 r.0) a))

no-evictions : (s : Store) (senders : Bytes) (hs cs nonces : List ℕ) (numbers : ℕ) →
    Each (λ t. cond (is_eviction t.0) (listed t.1) 0 ≡ 0) (transcript s (in_turn s (polls_from senders hs cs nonces) numbers))
unfolding polls_from in_turn transcript
no-evictions s senders [] cs nonces numbers = tt
no-evictions s senders (h ∷ hs) [] nonces numbers = tt
no-evictions s senders (h ∷ hs) (c ∷ cs) nonces numbers =
    let r = step s (lent (poll (take 20 senders) h (take c nonces) None) numbers) in
    (refl, no-evictions r.0 (drop 20 senders) hs cs (drop c nonces) (numbers - length (numbers_of long r.1)))

rescues-add : (s : Store) (qs : List Request) → rescued_in (rows (rows_listed s qs)) ≡ added (λ t. rescued_in t.1) (transcript s qs)
unfolding rescued_in rows_of rows_listed transcript added sum keep
rescues-add s [] = refl
rescues-add s (q ∷ qs) =
    rescues-append (rows_of (step s q).1) (rows_listed (step s q).0 qs)
    ∙ ap₂ ◌+◌ (sym (shown-same rescued_in (λ n. refl) (step s q).1)) (rescues-add (step s q).0 qs)

module _ (is : List Item) (h : RoomFor empty is) where
  accepted-told : sum (map (λ x. accepted_in x.1) (answers empty is)) ≡ added (λ t. accepted_in t.1) (transcript_read empty is)
  unfolding accepted_in
  accepted-told = column (λ i a. accepted_in a) (λ t. accepted_in t.1) (λ q a. sym (shown-same accepted_in (λ n. refl) a)) (λ w n. refl)
      (λ s w. polls-add-none (λ t. accepted_in t.1) (λ c l. refl) (transcript s (polls_in s w))) empty is h

  rescued-told : sum (map (λ x. rescued_in x.1) (answers empty is)) ≡ added (λ t. rescued_in t.1) (transcript_read empty is)
  unfolding rescued_in rows_of keep
  rescued-told = column (λ i a. rescued_in a) (λ t. rescued_in t.1) (λ q a. sym (shown-same rescued_in (λ n. refl) a)) (λ w n. refl)
      (λ s w r. rescues-add s (polls_in s w)) empty is h

  dead-told : sum (map (λ x. dead_in x.1) (answers empty is)) ≡ added (λ t. dead_in t.1) (transcript_read empty is)
  unfolding dead_in
  dead-told = column (λ i a. dead_in a) (λ t. dead_in t.1) (λ q a. sym (shown-same dead_in (λ n. refl) a)) (λ w n. refl)
      (λ s w. polls-add-none (λ t. dead_in t.1) (λ c l. refl) (transcript s (polls_in s w))) empty is h

  evicted-told : sum (map (λ x. evicted_in x.0 x.1) (answers empty is)) ≡ added (λ t. cond (is_eviction t.0) (listed t.1) 0) (transcript_read empty is)
  unfolding evicted_in listed polls_in
  evicted-told = column evicted_in (λ t. cond (is_eviction t.0) (listed t.1) 0)
      (λ q a. sym (shown-same (λ x. cond (is_eviction q.call) (listed x) 0) (λ n. refl) a)) (λ w n. refl)
      (λ s w r. sym (added_none _ (transcript s (polls_in s w)) (no-evictions s w.senders w.heads w.counts w.nonces w.numbers))) empty is h

pub totals-are-told : TotalsAreTold
unfolding totals totals_told
totals-are-told is h = rw (accepted-told is h, rescued-told is h, dead-told is h, evicted-told is h)
