-- The claims of `specs.Refusals`.
use Prim.Native.Nat.{ℕ, ◌*◌, ◌≤◌}
use mathlib.Core.Path.{◌≡◌, refl, sym, subst}
use mathlib.Core.Bool.{Bool, true, false, ◌||◌, not}
use mathlib.Core.List.{List, [], ◌∷◌}
use Rattle.std.specs.Prelude.{Option, None, Some}
use Rattle.std.specs.Option.{option_or}
use Rattle.lists.proofs.Options.{some-injective, none-ne-some, some-ne-none}
use lib.Dec.{eqb, ltb}
use lib.ListN.{length}
use borrow.Author.Tests.{ltb-false, le-ltb, eqb-true, eq-eqb}
use Rattle.lists.specs.Lists.{keep, is_empty, Each, sum, is_in}
use Rattle.lists.proofs.ByteOrder.{clash}
use Rattle.store_rules.specs.Store.{Store, RowForm, Call, push, poll, guard, enter_tentative, check_reorg, check_finalized, evict_sender, when, input_refusal, room_refusal, refusal, unless, step}
use Rattle.store_rules.specs.Sweeps.{Sweep, bad_lists, bad_sum, big_count, sweep_input_refusal, sweep_room_refusal, sweep_refusal, sweep_step}
use Rattle.order_rule.proofs.Sweeps.{small-counts, sweep-answers}
use Rattle.queries.specs.Queries.{blocks_refusal, senders_refusal, gap_refusal}
use Rattle.store_laws.specs.Refusals.{place_numbers, RefusedByPlace, RefusedByInputs, ReadingRefused, RefusedChangesNothing, sweep_numbers, EverySweepRefusal, SoundInputs, RefusedUnsound, SweepPollsAnswer}

-- a refusal, if there is one, is among these numbers
abbrev Among : List ℕ → Option ℕ → Type 0
Among ns None = Unit {0}
Among ns (Some n) = is_in n ns ≡ true

module _ (ns : List ℕ) where
  among-when : (b : Bool) (n : ℕ) → is_in n ns ≡ true → Among ns (when b n)
  unfolding when
  among-when true n h = h
  among-when false n h = tt

  among-or_else : (o p : Option ℕ) → Among ns o → Among ns p → Among ns (option_or o p)
  among-or_else (Some n) p h k = h
  among-or_else None p h k = k

input-among : (c : Call) → Among (place_numbers c) (input_refusal c)
unfolding input_refusal place_numbers is_in
input-among (push f) = among-when (place_numbers (push f)) _ 1 refl
input-among (poll a head known content) =
    let ns = place_numbers (poll a head known content) in
    among-or_else ns _ _ (among-when ns _ 3 refl) (among-when ns _ 4 refl)
input-among (guard g) =
    let ns = place_numbers (guard g) in
    among-or_else ns _ _ (among-when ns _ 6 refl) (among-when ns _ 7 refl)
input-among (enter_tentative h c) = tt
input-among (check_reorg b canonical) = tt
input-among (check_finalized n) = tt
input-among (evict_sender a) = tt

-- the refusals about room are 2, 5 and 8
about_room : List ℕ
about_room = 2 ∷ 5 ∷ 8 ∷ []

room-among : (s : Store) (c : Call) (form : RowForm) (numbers bytes : ℕ) → Among (place_numbers c) (room_refusal s c form numbers bytes) × Among about_room (room_refusal s c form numbers bytes)
unfolding room_refusal place_numbers is_in about_room
room-among s (push f) form numbers bytes = (among-when (place_numbers (push f)) _ 2 refl, among-when about_room _ 2 refl)
room-among s (poll a head known content) form numbers bytes = (among-when (place_numbers (poll a head known content)) _ 5 refl, among-when about_room _ 5 refl)
room-among s (guard g) form numbers bytes = (among-when (place_numbers (guard g)) _ 8 refl, among-when about_room _ 8 refl)
room-among s (enter_tentative h c) form numbers bytes = (tt, tt)
room-among s (check_reorg b canonical) form numbers bytes = (among-when (place_numbers (check_reorg b canonical)) _ 5 refl, among-when about_room _ 5 refl)
room-among s (check_finalized n) form numbers bytes = (among-when (place_numbers (check_finalized n)) _ 5 refl, among-when about_room _ 5 refl)
room-among s (evict_sender a) form numbers bytes = (among-when (place_numbers (evict_sender a)) _ 5 refl, among-when about_room _ 5 refl)

pub refused-by-place : RefusedByPlace
unfolding refusal
refused-by-place s q n e =
    subst (Among (place_numbers q.call)) e (among-or_else (place_numbers q.call) _ _ (input-among q.call) (room-among s q.call q.form q.numbers q.bytes).0)

pub refused-by-inputs : RefusedByInputs
unfolding refusal about_room
refused-by-inputs s t q n = go (input_refusal q.call) (room_refusal s q.call q.form q.numbers q.bytes) (room-among s q.call q.form q.numbers q.bytes).1
  where
    go : (i r : Option ℕ) → Among about_room r → option_or i r ≡ Some n → is_in n about_room ≡ false → option_or i (room_refusal t q.call q.form q.numbers q.bytes) ≡ Some n
    go (Some m) r a e f = e
    go None r a e f = clash (subst (Among about_room) e a) f

when-is : (b : Bool) (m n : ℕ) → when b m ≡ Some n → n ≡ m
unfolding when
when-is true m n e = sym (some-injective m n e)
when-is false m n e = absurd (none-ne-some n e)

pub reading-refused : (s : Store) → ReadingRefused s
unfolding blocks_refusal senders_refusal gap_refusal
reading-refused s = record {
  blocks = λ numbers bytes n e. when-is _ 5 n e;
  senders = λ bytes n e. when-is _ 5 n e;
  nonces = λ sender head pending_count numbers n e. when-is _ 5 n e;
}

pub refused-changes-nothing : RefusedChangesNothing
unfolding step unless
refused-changes-nothing s q n e = rw e

-- ---- sweeps

sweep-among : (s : Store) (w : Sweep) → Among sweep_numbers (sweep_refusal s w)
unfolding sweep_refusal sweep_input_refusal sweep_room_refusal sweep_numbers is_in
sweep-among s w =
    let ns = sweep_numbers in
    among-or_else ns _ _ (among-or_else ns _ _ (among-when ns _ 17 refl) (among-or_else ns _ _ (among-when ns _ 18 refl) (among-when ns _ 3 refl))) (among-when ns _ 5 refl)

pub every-sweep-refusal : EverySweepRefusal
unfolding sweep_step sweep_refusal sweep_room_refusal unless
every-sweep-refusal s w n e = record {
  number = subst (Among sweep_numbers) e (sweep-among s w);
  inputs = λ other t. go (sweep_input_refusal w) e other t;
  unchanged = rw e;
}
  where
    go : (i : Option ℕ) → option_or i (sweep_room_refusal s w) ≡ Some n → (n ≡ 5 → ⊥) → (t : Store) → option_or i (sweep_room_refusal t w) ≡ Some n
    go (Some m) e other t = e
    go None e other t = absurd (other (when-is _ 5 n e))

none-big : (cs : List ℕ) → Each (λ n. n ≤ 256) cs → big_count cs ≡ false
unfolding big_count keep is_empty
none-big [] h = refl
none-big (c ∷ cs) h = rw (le-ltb 256 c h.0) (none-big cs h.1)

pub refused-unsound : (w : Sweep) → RefusedUnsound w
unfolding sweep_input_refusal bad_lists bad_sum when
refused-unsound w = record {
  sound = go (ltb 64 heads) refl (eqb (length w.senders) (20 * heads)) refl (eqb heads (length w.counts)) refl
      (eqb (sum w.counts) (length w.nonces)) refl (big_count w.counts) refl;
  accepted = λ i.
      rw (le-ltb 64 heads i.senders, eq-eqb (length w.senders) (20 * heads) i.bytes, eq-eqb heads (length w.counts) i.counts, eq-eqb (sum w.counts) (length w.nonces) i.nonces, none-big w.counts i.few);
}
  where
    heads : ℕ
    heads = length w.heads

    go : (a : Bool) → ltb 64 heads ≡ a → (b : Bool) → eqb (length w.senders) (20 * heads) ≡ b → (c : Bool) → eqb heads (length w.counts) ≡ c →
        (d : Bool) → eqb (sum w.counts) (length w.nonces) ≡ d → (e : Bool) → big_count w.counts ≡ e →
        option_or (when (a || (not b || not c)) 17) (option_or (when (not d) 18) (when e 3)) ≡ None → SoundInputs w
    go true o b p c q d r e t h = absurd (some-ne-none 17 h)
    go false o false p c q d r e t h = absurd (some-ne-none 17 h)
    go false o true p false q d r e t h = absurd (some-ne-none 17 h)
    go false o true p true q false r e t h = absurd (some-ne-none 18 h)
    go false o true p true q true r true t h = absurd (some-ne-none 3 h)
    go false o true p true q true r false t h = record {
      senders = ltb-false 64 heads o;
      bytes = eqb-true _ _ p;
      counts = eqb-true _ _ q;
      nonces = eqb-true _ _ r;
      few = small-counts w.counts t;
    }

pub sweep-polls-answer : SweepPollsAnswer
sweep-polls-answer = sweep-answers
