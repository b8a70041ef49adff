-- The rule of two orders (`Orders.OrderRule`), proved: `order-rule`. A list with sweeps is read as the list of its requests, the
-- polls of its sweeps among them, and its run with room is the ideal run of their calls (`items-view`).
use Prim.Native.Nat.{ℕ, ◌*◌, ◌-◌, ◌≤◌}
use native.Mathlib.Omega.{arith}
use mathlib.Core.Path.{◌≡◌, refl, sym, ap, ap₂, ◌∙◌, subst}
use mathlib.Core.Bool.{Bool, true, false, not, cond, true≢false}
use mathlib.Core.List.Memᴰ
use mathlib.Core.List.{List, [], ◌∷◌, ◌++◌, map}
use Rattle.std.specs.Prelude.{Option, None, Some}
use Rattle.std.specs.Option.{option_or}
use Rattle.lists.proofs.Options.{some-ne-none}
use lib.Dec.{ltb}
use lib.ListN.{length, take, drop, length-take}
use borrow.Author.Tests.{ltb-false, le-ltb}
use Rattle.lists.specs.Bytes.{Bytes}
use Rattle.lists.specs.Lists.{keep, is_empty, Each, collect, sum, chunks}
use Rattle.lists.proofs.Elements.{each-join}
use Rattle.lists.proofs.Keeping.{each_map, each_at}
use Rattle.store_rules.specs.Frames.{Row}
use Rattle.store_rules.specs.Poll.{poll_rule}
use Rattle.store_rules.specs.Rules.{only_of}
use Rattle.store_rules.specs.Lookup.{entries_of}
use Rattle.store_rules.specs.Store.{Store, Sorted, empty, Call, poll, long, row_width, Request, Answer, rows, rows_of, walked, effect, when, bad_content, input_refusal, room_refusal, refusal, unless, step, run, calls}
use Rattle.store_rules.specs.Answers.{numbers_of}
use Rattle.store_rules.specs.Sweeps.{Sweep, polls_from, polls_of, lent, in_turn, polls_in, bad_lists, bad_sum, big_count, sweep_input_refusal, listed_entries, sweep_room_refusal, sweep_refusal, sweep_effect, sweep_step, Item, single, sweep, step_item, run_items}
use Rattle.store_rules.proofs.PollRows.{few-rows, poll-length}
use Rattle.store_rules.proofs.Runs.{single-run}
use Rattle.order_rule.specs.Orders.{pushes_of, shown, transcript, about_room, EnoughRoom, unrefused, calls_of, calls_read, requests_of, transcript_read, RoomFor, OrderRuleFrom, OrderRule, PlainIsSpecial}
use Rattle.order_rule.proofs.Ideal.{Ideal, view, effectᵢ, trailed, seen, effect-view, room-shown, view-run, view-transcript}
use Rattle.order_rule.proofs.Invariant.{Thinner, thinner-length, thinner-of, trail-thinner}
use Rattle.order_rule.proofs.Theorem.{IdealRuns, in-any-order}

-- ---- lists of requests, one after another

run-append : (s : Store) (xs ys : List Request) → run s (xs ++ ys) ≡ run (run s xs) ys
unfolding run
run-append s [] ys = refl
run-append s (x ∷ xs) ys = run-append (step s x).0 xs ys

transcript-append : (s : Store) (xs ys : List Request) → transcript s (xs ++ ys) ≡ transcript s xs ++ transcript (run s xs) ys
unfolding transcript run
transcript-append s [] ys = refl
transcript-append s (x ∷ xs) ys = ap (λ (l : List (Call × Answer)). (x.call, shown (step s x).1) ∷ l) (transcript-append (step s x).0 xs ys)

calls-append : (xs ys : List Request) → calls (xs ++ ys) ≡ calls xs ++ calls ys
unfolding calls
calls-append [] ys = refl
calls-append (x ∷ xs) ys = ap (λ (l : List Call). x.call ∷ l) (calls-append xs ys)

-- ---- the polls of a sweep that is not refused

abbrev pub AnswersRows : Call × Answer → Type 0
AnswersRows t = (l : List Row) × (t.1 ≡ rows l)

module _ (s : Store) (a : Bytes) (head : ℕ) (known : List ℕ) where
  poll-thinner : Thinner (effect s (poll a head known None)).0.entries s.entries
  unfolding view seen effectᵢ trailed
  poll-thinner =
      subst (λ (r : Ideal × Answer). Thinner r.0.entries s.entries) (effect-view s (poll a head known None))
      (trail-thinner (only_of a (poll_rule head known None)) s.entries _)

  -- a poll leaves the senders no more entries than they had
  listed-fewer : (senders : Bytes) (hs : List ℕ) →
      listed_entries senders (length hs) (effect s (poll a head known None)).0.entries ≤ listed_entries senders (length hs) s.entries
  unfolding listed_entries sum chunks
  listed-fewer senders [] = omega arith
  listed-fewer senders (h ∷ hs) = omega (arith, thinner-length (thinner-of (take 20 senders) poll-thinner), listed-fewer (drop 20 senders) hs)

  -- it lists no more rows than the sender has entries
  poll-few : length (rows_of (effect s (poll a head known None)).1) ≤ length (entries_of a s.entries)
  unfolding effect walked rows_of
  poll-few = few-rows a head known None s.entries s.guards

  poll-rows : shown (effect s (poll a head known None)).1 ≡ rows (rows_of (effect s (poll a head known None)).1)
  unfolding effect walked rows_of shown
  poll-rows = refl

  module _ (numbers : ℕ) (small : length known ≤ 256) (room : 19 * length (entries_of a s.entries) ≤ numbers) where
    poll-made : step s (lent (poll a head known None) numbers) ≡ effect s (poll a head known None)
    unfolding step unless refusal input_refusal room_refusal row_width when bad_content
    poll-made = rw (le-ltb 256 (length known) small, le-ltb numbers (19 * length (entries_of a s.entries)) room)

    poll-fits : length (numbers_of long (step s (lent (poll a head known None) numbers)).1) ≤ 19 * length (entries_of a s.entries)
    unfolding row_width
    poll-fits =
        let few : length (rows_of (step s (lent (poll a head known None) numbers)).1) ≤ length (entries_of a s.entries) = rw poll-made poll-few in
        omega (arith, poll-length s long a head known None numbers)

pub small-counts : (cs : List ℕ) → big_count cs ≡ false → Each (λ n. n ≤ 256) cs
unfolding big_count keep is_empty
small-counts [] e = tt
small-counts (c ∷ cs) e = go (ltb 256 c) refl e (small-counts cs)
  where
    go : (b : Bool) → ltb 256 c ≡ b → not (is_empty (cond b (c ∷ keep (λ n. ltb 256 n) cs) (keep (λ n. ltb 256 n) cs))) ≡ false →
        (big_count cs ≡ false → Each (λ n. n ≤ 256) cs) → Each (λ n. n ≤ 256) (c ∷ cs)
    go true p q ih = absurd (true≢false q)
    go false p q ih = (ltb-false 256 c p, ih q)

polls-answer : (s : Store) (senders : Bytes) (hs cs nonces : List ℕ) (numbers : ℕ) → Each (λ n. n ≤ 256) cs → 19 * listed_entries senders (length hs) s.entries ≤ numbers →
    Each AnswersRows (transcript s (in_turn s (polls_from senders hs cs nonces) numbers))
unfolding polls_from in_turn listed_entries sum chunks transcript
polls-answer s senders [] cs nonces numbers small room = tt
polls-answer s senders (h ∷ hs) [] nonces numbers small room = tt
polls-answer s senders (h ∷ hs) (n ∷ ns) nonces numbers small room =
    let sender : Bytes = take 20 senders in
    let known : List ℕ = take n nonces in
    let r : Store × Answer = step s (lent (poll sender h known None) numbers) in
    let few : length known ≤ 256 = omega (arith, length-take n nonces, small.0) in
    let here : 19 * length (entries_of sender s.entries) ≤ numbers = omega arith in
    let made : step s (lent (poll sender h known None) numbers) ≡ effect s (poll sender h known None) = poll-made s sender h known numbers few here in
    let fewer : listed_entries (drop 20 senders) (length hs) r.0.entries ≤ listed_entries (drop 20 senders) (length hs) s.entries =
    rw made (listed-fewer s sender h known (drop 20 senders) hs) in (
      (_, ap (λ (x : Store × Answer). shown x.1) made ∙ poll-rows s sender h known),
      polls-answer r.0 (drop 20 senders) hs ns (drop n nonces) (numbers - length (numbers_of long r.1)) small.1 (omega (arith, poll-fits s sender h known numbers few here)),
    )

-- none of them is refused
pub sweep-answers : (s : Store) (w : Sweep) → sweep_refusal s w ≡ None → Each AnswersRows (transcript s (polls_in s w))
unfolding sweep_refusal sweep_input_refusal sweep_room_refusal polls_in when
sweep-answers s w e =
    go (bad_lists w.senders w.heads w.counts) (bad_sum w.counts w.nonces) (big_count w.counts) refl
    (ltb w.numbers (19 * listed_entries w.senders (length w.heads) s.entries)) refl e
  where
    go : (b c d : Bool) → big_count w.counts ≡ d → (f : Bool) → ltb w.numbers (19 * listed_entries w.senders (length w.heads) s.entries) ≡ f →
        option_or (option_or (when b 17) (option_or (when c 18) (when d 3))) (when f 5) ≡ None → Each AnswersRows (transcript s (in_turn s (polls_of w) w.numbers))
    go true c d p f q e = absurd (some-ne-none 17 e)
    go false true d p f q e = absurd (some-ne-none 18 e)
    go false false true p f q e = absurd (some-ne-none 3 e)
    go false false false p true q e = absurd (some-ne-none 5 e)
    go false false false p false q e = polls-answer s w.senders w.heads w.counts w.nonces w.numbers (small-counts w.counts p) (ltb-false _ _ q)

-- ---- what an item is read as, where it is not refused for want of room

abbrev Roomy : Call × Answer → Type 0
Roomy t = about_room t.1 ≡ false

record Read (s : Store) (i : Item) : Type 0 where
  runs : (step_item s i).0 ≡ run s (requests_of s i)
  roomy : Each Roomy (transcript s (requests_of s i))

rows-roomy : (t : Call × Answer) → AnswersRows t → Roomy t
unfolding about_room
rows-roomy t h = rw h.1

item-read : (s : Store) (i : Item) → about_room (step_item s i).1 ≡ false → Read s i
unfolding step_item requests_of transcript run sweep_step sweep_refusal sweep_room_refusal sweep_effect unless unrefused when about_room
item-read s (single q) h = record { runs = refl; roomy = (room-shown (step s q).1 ∙ h, tt) }
item-read s (sweep w) h = go (sweep_input_refusal w) refl (ltb w.numbers (19 * listed_entries w.senders (length w.heads) s.entries)) refl h
  where
    go : (o : Option ℕ) → sweep_input_refusal w ≡ o → (b : Bool) → ltb w.numbers (19 * listed_entries w.senders (length w.heads) s.entries) ≡ b →
        about_room (unless (option_or o (when b 5)) s (sweep_effect s w)).1 ≡ false → Read s (sweep w)
    go (Some n) p b q h = record { runs = rw p; roomy = rw p tt }
    go None p true q h = absurd (true≢false h)
    go None p false q h = record { runs = rw (p, q); roomy = rw p (each_map AnswersRows Roomy (transcript s (polls_in s w)) rows-roomy (sweep-answers s w (rw (p, q)))) }

polls-calls : (s : Store) (cs : List Call) (numbers : ℕ) → calls (in_turn s cs numbers) ≡ cs
unfolding calls in_turn
polls-calls s [] numbers = refl
polls-calls s (c ∷ cs) numbers =
    let r = step s (lent c numbers) in
    ap (λ (l : List Call). c ∷ l) (polls-calls r.0 cs (numbers - length (numbers_of long r.1)))

item-calls : (s : Store) (i : Item) → calls (requests_of s i) ≡ calls_of i
unfolding requests_of calls_of calls unrefused polls_in
item-calls s (single q) = refl
item-calls s (sweep w) = go (sweep_input_refusal w)
  where
    go : (o : Option ℕ) → calls (unrefused o (polls_in s w)) ≡ unrefused o (polls_of w)
    go (Some n) = refl
    go None = polls-calls s (polls_of w) w.numbers

-- ---- what a list of items is read as

requests_read : Store → List Item → List Request
requests_read s [] = []
requests_read s (i ∷ is) = requests_of s i ++ requests_read (step_item s i).0 is

calls-read : (s : Store) (is : List Item) → calls (requests_read s is) ≡ calls_read is
unfolding requests_read calls_read collect calls
calls-read s [] = refl
calls-read s (i ∷ is) = calls-append (requests_of s i) (requests_read (step_item s i).0 is) ∙ ap₂ (λ (x y : List Call). x ++ y) (item-calls s i) (calls-read (step_item s i).0 is)

record ReadAll (s : Store) (is : List Item) : Type 0 where
  runs : run_items s is ≡ run s (requests_read s is)
  tells : transcript_read s is ≡ transcript s (requests_read s is)
  roomy : Each Roomy (transcript s (requests_read s is))

items-read : (s : Store) (is : List Item) → RoomFor s is → ReadAll s is
unfolding run_items run requests_read transcript_read transcript
items-read s [] h = record { runs = refl; tells = refl; roomy = tt }
items-read s (i ∷ is) h =
    let t : Store = (step_item s i).0 in
    let rest : List Request = requests_read t is in
    let here : Read s i = item-read s i h.0 in
    let later : ReadAll t is = items-read t is h.1 in
    let told : transcript s (requests_of s i ++ rest) ≡ transcript s (requests_of s i) ++ transcript t rest =
    transcript-append s (requests_of s i) rest ∙ rw (← here.runs) in
    record {
      runs = later.runs ∙ rw (run-append s (requests_of s i) rest, ← here.runs);
      tells = rw (told, later.tells);
      roomy = rw told (each-join Roomy (transcript s (requests_of s i)) (transcript t rest) here.roomy later.roomy);
    }

-- a run of items with room is the ideal run of the calls that they are read as
pub items-view : (s : Store) → IdealRuns s calls_read (RoomFor s) (run_items s) (transcript_read s)
items-view s is h =
    let r = items-read s is h in
    let enough : EnoughRoom s (requests_read s is) = λ c a k. each_at Roomy (transcript s (requests_read s is)) r.roomy (c, a) k in
    rw (← calls-read s is, r.runs, r.tells) (view-run s (requests_read s is) enough, view-transcript s (requests_read s is) enough)

-- ---- the rule

pub order-rule-from : (s : Store) → Sorted s.entries → OrderRuleFrom s
order-rule-from s h = in-any-order s h calls_read (RoomFor s) (run_items s) (transcript_read s) (items-view s)

pub order-rule : OrderRule
unfolding empty pushes_of
order-rule = order-rule-from empty tt

-- ---- lists without sweeps

single-calls : (qs : List Request) → calls_read (map single qs) ≡ calls qs
unfolding calls_read calls_of collect calls
single-calls [] = refl
single-calls (q ∷ qs) = ap (λ (l : List Call). q.call ∷ l) (single-calls qs)

single-transcript : (s : Store) (qs : List Request) → transcript_read s (map single qs) ≡ transcript s qs
unfolding transcript_read requests_of step_item transcript
single-transcript s [] = refl
single-transcript s (q ∷ qs) = ap (λ (l : List (Call × Answer)). (q.call, shown (step s q).1) ∷ l) (single-transcript (step s q).0 qs)

single-room : (s : Store) (qs : List Request) → EnoughRoom s qs → RoomFor s (map single qs)
unfolding step_item transcript
single-room s [] h = tt
single-room s (q ∷ qs) h =
    (sym (room-shown (step s q).1) ∙ h q.call (shown (step s q).1) (Memᴰ.head refl), single-room (step s q).0 qs (λ c a m. h c a (Memᴰ.tail m)))

pub plain-is-special : PlainIsSpecial
plain-is-special s rule xs ys t one m n =
    let ex = single-calls xs in
    let r = rule (map single xs) (map single ys) (rw (ex, single-calls ys) t) (rw ex one) (single-room s xs m) (single-room s ys n) in
    (rw (single-run s xs, single-run s ys) at r.0, rw (ex, single-transcript s xs, single-transcript s ys) at r.1)

-- ---- what every call keeps

-- the premise of `order-rule-from`, among others: it holds of each store that calls and sweeps lead to from an empty one
module _ (P : Store → Type 0) (kept : (s : Store) (q : Request) → P s → P (step s q).0) where
  run-keeps : (s : Store) (qs : List Request) → P s → P (run s qs)
  unfolding run
  run-keeps s [] h = h
  run-keeps s (q ∷ qs) h = run-keeps (step s q).0 qs (kept s q h)

  item-keeps : (s : Store) (i : Item) → P s → P (step_item s i).0
  unfolding step_item sweep_step sweep_effect unless
  item-keeps s (single q) h = kept s q h
  item-keeps s (sweep w) h = go (sweep_refusal s w)
    where
      go : (o : Option ℕ) → P (unless o s (sweep_effect s w)).0
      go (Some n) = h
      go None = run-keeps s (polls_in s w) h

  pub items_keep : (s : Store) (is : List Item) → P s → P (run_items s is)
  unfolding run_items
  items_keep s [] h = h
  items_keep s (i ∷ is) h = items_keep (step_item s i).0 is (item-keeps s i h)
