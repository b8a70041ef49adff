-- What a sweep makes of the held part: its refusals in their order, and its polls.
use Prim.Native.Nat.{ℕ, zero, suc, ◌*◌, ◌/◌, ◌≤◌, ◌<◌}
use native.Mathlib.Omega.{arith}
use mathlib.Core.Path.{◌≡◌, refl, sym}
use mathlib.Core.Bool.{Bool, true, false, ◌||◌, not, cond, true≢false}
use mathlib.Core.List.{List, [], ◌∷◌}
use Rattle.std.specs.Prelude.{Some, IsTrue, ◌↔◌, SomeIndex}
use lib.Dec.{eqb, ltb}
use lib.ListN.{length, get_or}
use borrow.Author.Tests.{lt-ltb, le-ltb, ltb-true, ltb-false, eqb-true, not-false}
use Rattle.lists.specs.Bytes.{Bytes}
use Rattle.lists.specs.Lists.{keep, is_empty, sum}
use Rattle.refusal.specs.Numbers.{refusal_number}
use Rattle.refusal.specs.declared.Refusal.{Refusal}
use Rattle.refusal.specs.declared.Refusal.TheVariants.{ManyKnown, ShortSlice, BadSweepLists, BadNonceCounts}
use Rattle.store_rules.specs.Store.{long, when, unless}
use Rattle.store_rules.specs.Answers.{Said, says_refused, said, numbers_of, bytes_of}
use Rattle.store_rules.specs.Sweeps.{Sweep, bad_lists, bad_sum, big_count, sweep_input_refusal, listed_entries, sweep_room_refusal, sweep_refusal, sweep_effect, sweep_step}
use Rattle.store_rules.specs.View.{Bodies, entries_seen, held_view}
use Rattle.store_rules.specs.declared.Held.{Held}
use Rattle.answers.specs.Promises.{Gives, asked_sweep, SweepSteps}

-- a count over 256 stands in the list, by its place
big-at : (l : List ℕ) → big_count l ≡ true → SomeIndex l (λ k. 256 < get_or l k 0)
unfolding big_count is_empty keep
big-at [] e = absurd (true≢false (sym e))
big-at (x ∷ l) e = go (ltb 256 x) refl e (big-at l)
  where
    go : (t : Bool) → ltb 256 x ≡ t → not (is_empty (cond t (x ∷ keep (λ n. ltb 256 n) l) (keep (λ n. ltb 256 n) l))) ≡ true →
        (not (is_empty (keep (λ n. ltb 256 n) l)) ≡ true → SomeIndex l (λ k. 256 < get_or l k 0)) → SomeIndex (x ∷ l) (λ k. 256 < get_or (x ∷ l) k 0)
    go true t e ih = (0, omega arith, ltb-true 256 x t)
    go false t e ih = let r = ih e in (suc r.0, omega (arith, r.1), r.2)

at-big : (l : List ℕ) (k : ℕ) → k < length l → 256 < get_or l k 0 → big_count l ≡ true
unfolding big_count is_empty keep
at-big [] k h b = absurd (omega arith)
at-big (x ∷ l) zero h b = rw (lt-ltb 256 x b)
at-big (x ∷ l) (suc k) h b = go (ltb 256 x) (at-big l k (omega arith) b)
  where
    go : (t : Bool) → not (is_empty (keep (λ n. ltb 256 n) l)) ≡ true → not (is_empty (cond t (x ∷ keep (λ n. ltb 256 n) l) (keep (λ n. ltb 256 n) l))) ≡ true
    go true ih = refl
    go false ih = ih

pub any-big : (b : Bool) (l : List ℕ) → IsTrue b ↔ SomeIndex l (λ k. 256 < get_or l k 0) → b ≡ big_count l
any-big true l e = let s = e.0 refl in sym (at-big l s.0 s.1 s.2)
any-big false l e = go (big_count l) refl
  where
    go : (t : Bool) → big_count l ≡ t → false ≡ t
    go true t = e.1 (big-at l t)
    go false t = refl

-- lists that are not bad agree in length
pub agree : (senders : Bytes) (heads counts : List ℕ) → bad_lists senders heads counts ≡ false →
    (length heads ≤ 64) × (length senders ≡ 20 * length heads) × (length counts ≡ length heads)
unfolding bad_lists
agree senders heads counts = go (ltb 64 (length heads)) refl (eqb (length senders) (20 * length heads)) refl (eqb (length heads) (length counts)) refl
  where
    go : (x : Bool) → ltb 64 (length heads) ≡ x → (y : Bool) → eqb (length senders) (20 * length heads) ≡ y → (z : Bool) → eqb (length heads) (length counts) ≡ z → (x || (not y || not z)) ≡ false →
        (length heads ≤ 64) × (length senders ≡ 20 * length heads) × (length counts ≡ length heads)
    go true a y b z d e = absurd (true≢false e)
    go false a false b z d e = absurd (true≢false e)
    go false a true b false d e = absurd (true≢false e)
    go false a true b true d e = (ltb-false _ _ a, eqb-true _ _ b, sym (eqb-true _ _ d))

-- as many senders as heads
pub senders-count : (senders : Bytes) (heads counts : List ℕ) → bad_lists senders heads counts ≡ false → length senders / 20 ≡ length heads
senders-count senders heads counts h = let g = agree senders heads counts h in omega (arith, g.1)

-- a sum that is not bad is the nonce list's length
pub sums : (counts nonces : List ℕ) → bad_sum counts nonces ≡ false → sum counts ≡ length nonces
unfolding bad_sum
sums counts nonces h = eqb-true _ _ (not-false _ h)

module _ (bodies : Bodies) (h : Held) (senders : Bytes) (heads counts nonces slice : List ℕ) where
  abbrev asked : Sweep
  asked = asked_sweep senders heads counts nonces slice

  refused-sweep : (x : Refusal) → sweep_refusal (held_view bodies h) asked ≡ Some (refusal_number x) → SweepSteps (held_view bodies) h asked slice (says_refused (refusal_number x)) h slice
  unfolding sweep_step unless said numbers_of bytes_of
  refused-sweep x e = record { store = rw e; answer = rw e; numbers_after = rw e; bytes_after = rw e; kept = λ n p. refl }

  pub bad-lists : bad_lists senders heads counts ≡ true → SweepSteps (held_view bodies) h asked slice (says_refused 17) h slice
  unfolding sweep_refusal sweep_input_refusal when
  bad-lists t = refused-sweep BadSweepLists (rw t)

  module _ (good : bad_lists senders heads counts ≡ false) where
    pub bad_sum_lem : bad_sum counts nonces ≡ true → SweepSteps (held_view bodies) h asked slice (says_refused 18) h slice
    unfolding sweep_refusal sweep_input_refusal when
    bad_sum_lem t = refused-sweep BadNonceCounts (rw (good, t))

    module _ (summed : bad_sum counts nonces ≡ false) where
      pub big : big_count counts ≡ true → SweepSteps (held_view bodies) h asked slice (says_refused 3) h slice
      unfolding sweep_refusal sweep_input_refusal when
      big t = refused-sweep ManyKnown (rw (good, summed, t))

      module _ (small : big_count counts ≡ false) where
        pub short-slice : length slice < 19 * listed_entries senders (length heads) (entries_seen h) → SweepSteps (held_view bodies) h asked slice (says_refused 5) h slice
        unfolding sweep_refusal sweep_input_refusal sweep_room_refusal when
        short-slice l = refused-sweep ShortSlice (rw (good, summed, small, lt-ltb _ _ l))

        made : 19 * listed_entries senders (length heads) (entries_seen h) ≤ length slice → sweep_step (held_view bodies h) asked ≡ sweep_effect (held_view bodies h) asked
        unfolding sweep_step sweep_refusal sweep_input_refusal sweep_room_refusal when unless
        made l = rw (good, summed, small, le-ltb _ _ l)

        pub swept : 19 * listed_entries senders (length heads) (entries_seen h) ≤ length slice → (a : Said) (h' : Held) (slice' : List ℕ) →
            Gives (held_view bodies) long h (sweep_effect (held_view bodies h) asked) slice [] a h' slice' [] → SweepSteps (held_view bodies) h asked slice a h' slice'
        swept l a h' slice' g = rw (made l) g
