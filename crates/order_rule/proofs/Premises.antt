-- The claims of `Premises`, by computation; its last by the order rule.
use Prim.Native.Nat.{ℕ, zero, suc}
use mathlib.Core.Path.{◌≡◌, refl, sym, ap, ◌∙◌}
use mathlib.Core.Bool.{Bool, true, false, ◌&&◌, not, cond}
use mathlib.Core.List.{List, [], ◌∷◌, Memᴰ, nil≢cons}
use Rattle.std.specs.Prelude.{Option, None, Some}
use Rattle.std.specs.Option.{option_or}
use borrow.Author.Tests.{eqb-false, not-false}
use lib.Dec.{eqb}
use lib.ListN.{length, replicate}
use Rattle.lists.specs.Bytes.{Bytes, eq_bytes, le_bytes}
use Rattle.lists.specs.Lists
use Rattle.lists.specs.Search
use Rattle.lists.specs.Lists.{keep}
use Rattle.lists.proofs.ByteOrder.{clash, eq_bytes-true}
use Rattle.lists.proofs.Elements.{keep-none}
use Rattle.store_rules.specs.Frames.{Frame, Entry, Guard, degraded, is_tracked}
use Rattle.store_rules.specs.Poll
use Rattle.store_rules.specs.Poll.{boundary_holds}
use Rattle.store_rules.specs.Rules
use Rattle.store_rules.specs.Lookup
use Rattle.store_rules.specs.Store
use Rattle.store_rules.specs.Store.{Store, empty, guard_of, is_guarded, Call, push, run}
use Rattle.store_rules.specs.Answers
use Rattle.store_rules.specs.Sweeps
use Rattle.store_rules.specs.Sweeps.{Item, step_item, run_items}
use Rattle.order_rule.specs.Orders
use Rattle.order_rule.specs.Orders.{Key, sender, alone, push_of, owner_in, key_by, OneSender, Keyed, nothing, also, rest, cut, about_room, calls_read, RoomFor}
use Rattle.order_rule.specs.Premises
use Rattle.order_rule.specs.Premises.{InTwoOrders, BothHaveRoom, StoresDiffer, answers_of, a, b, h, i, frame, parks, parks_of, guards_of, enter_before, enter_after, finality_last, finality_between, reorg_last, reorg_between, poll_after, poll_before, five_then_six, six_then_five, evict_first, evict_last, poll_lacks_room, short_lacks_room, sweep_after, sweep_lacks_room, drop_first, drop_last, a_then_b, b_between, Premises}
use Rattle.order_rule.proofs.Swap.{swap}
use Rattle.order_rule.proofs.Sweeps.{order-rule}

-- ---- premises that computation settles

pub room : (s : Store) (xs : List Item) → keep about_room (answers_of s xs) ≡ [] → RoomFor s xs
unfolding answers_of keep
room s [] e = tt
room s (x ∷ xs) e = go (about_room (step_item s x).1) e (room (step_item s x).0 xs)
  where
    go : (b : Bool) → cond b ((step_item s x).1 ∷ keep about_room (answers_of (step_item s x).0 xs)) (keep about_room (answers_of (step_item s x).0 xs)) ≡ [] →
        (keep about_room (answers_of (step_item s x).0 xs) ≡ [] → RoomFor (step_item s x).0 xs) → (b ≡ false) × RoomFor (step_item s x).0 xs
    go true q ih = absurd (nil≢cons (sym q))
    go false q ih = (refl, ih q)

-- a push by another than the sender that is named for its hash
unfoldable pub misfits : (Bytes → Bytes) → Option Frame → Bool
misfits named None = false
misfits named (Some f) = not (eq_bytes (named f.hash) f.from)

pub one-sender : (named : Bytes → Bytes) (cs : List Call) → keep (λ c. misfits named (push_of c)) cs ≡ [] → OneSender cs
unfolding misfits push_of
one-sender named cs e f g m n q = sym (fits f m) ∙ ap named q ∙ fits g n
  where
    fits : (x : Frame) → Memᴰ (push x) cs → named x.hash ≡ x.from
    fits x k = eq_bytes-true (named x.hash) x.from (not-false _ (keep-none (λ c. misfits named (push_of c)) cs e (push x) k))

-- the runs leave different numbers of entries that pass a test
apart : (p : Entry → Bool) (xs ys : List Item) → eqb (length (keep p (run_items empty xs).entries)) (length (keep p (run_items empty ys).entries)) ≡ false → StoresDiffer xs ys
apart p xs ys n e = eqb-false _ _ n (ap (λ (l : List Entry). length (keep p l)) e.entries)

-- the runs leave different guards of a hash, as a test tells
apart-guards : (p : Option Guard → Bool) (k : Bytes) (xs ys : List Item) → p (guard_of k (run_items empty xs).guards) ≡ true → p (guard_of k (run_items empty ys).guards) ≡ false → StoresDiffer xs ys
apart-guards p k xs ys t f e = clash t (ap p (e.guards k) ∙ f)

-- a guard stands, and for this expected nonce its boundary holds
has_boundary : ℕ → Option Guard → Bool
has_boundary n None = false
has_boundary n (Some g) = boundary_holds g.kind n

-- ---- the claims

pub premises : Premises
unfolding Sweeps.polls_from Sweeps.in_turn Sweeps.polls_in Sweeps.bad_lists Sweeps.bad_sum Sweeps.big_count Sweeps.sweep_input_refusal Sweeps.listed_entries Sweeps.sweep_room_refusal Sweeps.sweep_refusal Sweeps.sweep_effect Sweeps.sweep_step step_item run_items answers_of Answers.numbers_of Answers.row_numbers Lists.sum Lists.chunks Lists.collect Store.refusal run empty Store.step Store.unless Store.input_refusal Store.room_refusal Store.row_width Store.effect Store.walk Store.walked Store.insert Store.fresh Lookup.enters Lookup.found_behind Lookup.first_of Lookup.lookup Lookup.is_found Lookup.enter_with Lookup.enter_head Lookup.enter_first is_tracked guard_of is_guarded Store.drop_guard Store.put_guard Store.after Store.when Store.wide_gap Store.bad_content Store.bad_contents Store.no_room_for Store.listed Lookup.entries_of keep Search.first_at Lists.is_empty Lists.is_in Lists.numbers_from eq_bytes le_bytes degraded Poll.gap Poll.predecessors Poll.unknown boundary_holds Poll.guard_matches Poll.stay Poll.leave Poll.row Poll.poll_full Poll.poll_in Poll.poll_given Poll.poll_rule Rules.only_of Rules.evict_rule Rules.differs Rules.reorg_in Rules.reorg_rule Rules.final_in Rules.final_rule key_by owner_in Orders.owner_by push_of Orders.transcript Orders.shown Orders.unrefused Orders.calls_of calls_read Orders.requests_of Orders.transcript_read about_room Orders.eq_key Orders.is_for Orders.of_key misfits has_boundary a b h i frame Premises.ask parks parks_of Premises.enters100 Premises.finalized100 Premises.reorganised100 Premises.whole_gap Premises.polls Premises.sweeps Premises.sweeps_many Premises.guards guards_of enter_before enter_after finality_last finality_between reorg_last reorg_between poll_after poll_before five_then_six six_then_five evict_first evict_last poll_lacks_room short_lacks_room sweep_after sweep_lacks_room drop_first drop_last a_then_b b_between
premises = record {
  one_sender = (
    rest (swap (key_by (owner_in (calls_read enter_before))) _ _ (sender b) (sender a) refl refl refl (also (sender b) refl nothing) nothing),
    (room empty enter_before refl, room empty enter_after refl),
    apart (λ e. eq_bytes e.frame.from a && is_tracked e.standing.state) enter_before enter_after refl,
  );
  finality = (
    λ k. refl,
    one-sender (λ x. a) (calls_read finality_last) refl,
    (room empty finality_last refl, room empty finality_between refl),
    apart (λ e. true) finality_last finality_between refl,
  );
  reorganisation = (
    λ k. refl,
    one-sender (λ x. a) (calls_read reorg_last) refl,
    (room empty reorg_last refl, room empty reorg_between refl),
    apart (λ e. is_tracked e.standing.state) reorg_last reorg_between refl,
  );
  senders_order = (
    one-sender (λ x. a) (calls_read poll_after) refl,
    (room empty poll_after refl, room empty poll_before refl),
    apart (λ e. true) poll_after poll_before refl,
  );
  unpushed_order = (
    λ from. refl,
    one-sender (λ x. a) (calls_read five_then_six) refl,
    (room empty five_then_six refl, room empty six_then_five refl),
    apart-guards (has_boundary 6) h five_then_six six_then_five refl refl,
  );
  room2 = (
    rest (swap (key_by (owner_in (calls_read evict_first))) _ _ (sender a) (sender b) refl refl refl (parked 64) nothing),
    one-sender (λ x. cond (eq_bytes x h) a b) (calls_read evict_first) refl,
    (room empty evict_first refl, refl),
    apart (λ e. true) evict_first evict_last refl,
  );
  room5 = (
    rest (record { keyed = (asked, asked); same = λ k. refl }),
    one-sender (λ x. a) (calls_read poll_after) refl,
    (room empty poll_after refl, refl),
    apart (λ e. true) poll_after poll_lacks_room refl,
  );
  room5_short = (
    rest (record { keyed = (asked, asked); same = λ k. refl }),
    one-sender (λ x. a) (calls_read poll_after) refl,
    (room empty poll_after refl, refl),
    apart (λ e. true) poll_after short_lacks_room refl,
  );
  room5_sweep = (
    rest (record { keyed = (asked_twice, asked_twice); same = λ k. refl }),
    one-sender (λ x. a) (calls_read sweep_after) refl,
    (room empty sweep_after refl, refl),
    refl,
    apart (λ e. true) sweep_after sweep_lacks_room refl,
  );
  room8 = (
    rest (swap (key_by (owner_in (calls_read drop_first))) _ _ (sender a) (alone i) refl refl refl (also (sender a) refl (also (sender a) refl (guarded 63))) nothing),
    one-sender (λ x. a) (calls_read drop_first) refl,
    (room empty drop_first refl, refl),
    apart-guards is_guarded i drop_first drop_last refl refl,
  );
  together = together;
  same_stores = (order-rule a_then_b b_between together.0 together.1 together.2.0 together.2.1).0;
}
  where
    parked : (n : ℕ) → Keyed (key_by (owner_in (calls_read evict_first))) (calls_read (parks_of n))
    parked zero = nothing
    parked (suc n) = also (sender a) refl (parked n)

    asked : Keyed (key_by (owner_in (calls_read poll_after))) (calls_read poll_after)
    asked = also (sender a) refl (also (sender a) refl nothing)

    asked_twice : Keyed (key_by (owner_in (calls_read sweep_after))) (calls_read sweep_after)
    asked_twice = also (sender a) refl (also (sender a) refl (also (sender a) refl nothing))

    guarded : (n : ℕ) → Keyed (key_by (owner_in (calls_read drop_first))) (calls_read (guards_of n))
    guarded zero = nothing
    guarded (suc n) = also (alone (9 ∷ n ∷ replicate 30 9)) refl (guarded n)

    key_of : Call → Option Key
    key_of = key_by (owner_in (calls_read a_then_b))

    together : InTwoOrders a_then_b b_between × OneSender (calls_read a_then_b) × BothHaveRoom a_then_b b_between
    together = (
      cut (swap key_of _ _ (sender a) (sender b) refl refl refl (also (sender a) refl nothing) nothing) refl
          (rest (swap key_of _ _ (sender a) (sender b) refl refl refl nothing nothing)),
      one-sender (λ x. cond (eq_bytes x h) a b) (calls_read a_then_b) refl,
      (room empty a_then_b refl, room empty b_between refl),
    )
