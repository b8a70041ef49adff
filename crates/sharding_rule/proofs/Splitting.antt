-- Splitting adds no refusal (`Splitting.SplittingRule`), proved: `splitting-rule`.
use Prim.Native.Nat.{ℕ, ◌*◌, ◌≤◌}
use native.Mathlib.Omega.{arith}
use mathlib.Core.Path.{◌≡◌, refl, sym, ap, ap₂, ◌∙◌, subst}
use mathlib.Core.Bool.{Bool, true, false, cond, true≢false}
use mathlib.Core.List.{List, [], ◌∷◌, ◌++◌, append-nil}
use Rattle.std.specs.Prelude.{Option, None, Some}
use Rattle.std.specs.Option.{option_or}
use lib.Dec.{eqb, ltb}
use lib.ListN.{length}
use borrow.Author.Tests.{ltb-false, le-ltb}
use Rattle.lists.specs.Bytes.{Bytes}
use Rattle.lists.specs.Lists.{keep, collect}
use Rattle.lists.proofs.Keeping.{keep_append, each_append, each_of}
use Rattle.lists.proofs.Writing.{collect-append}
use Rattle.store_rules.specs.Frames.{Entry}
use Rattle.store_rules.specs.Lookup.{entries_of}
use Rattle.store_rules.specs.Store.{Store, empty, Call, poll, when, unless}
use Rattle.store_rules.specs.Sweeps.{Sweep, polls_of, sweep_input_refusal, listed_entries, sweep_room_refusal, sweep_refusal, sweep_effect, sweep_step, Item, single, sweep, step_item, run_items}
use Rattle.order_rule.specs.Orders.{Key, sender, owner_in, key_by, concerns, about_room, unrefused, calls_of, calls_read, RoomFor}
use Rattle.order_rule.proofs.Ideal.{view, runᵢ}
use Rattle.order_rule.proofs.Invariant.{OwnedCall, OwnedCalls, Good}
use Rattle.order_rule.proofs.Shard.{shard, shard-run}
use Rattle.order_rule.proofs.Theorem.{run-good}
use Rattle.order_rule.proofs.Owner.{owned-call}
use Rattle.order_rule.proofs.Sweeps.{items-view}
use Rattle.store_laws.proofs.Refusals.{refused-unsound}
use Rattle.store_laws.proofs.Reachable.{OneGuardAHash, every-run}
use Rattle.sharding_rule.specs.Shards.{goes_to, calls_for}
use Rattle.sharding_rule.specs.Splitting.{sweep_of, item_for, items_for, SplitIsRead, SplittingRule}
use Rattle.sharding_rule.proofs.Sweeps.{Part, part}
use Rattle.sharding_rule.proofs.Room.{own-entries, step_room}
use Rattle.sharding_rule.proofs.Theorem.{good-empty, empty-shard, sharding-rule}

-- ---- items, one after another

items-append : (s : Store) (xs ys : List Item) → run_items s (xs ++ ys) ≡ run_items (run_items s xs) ys
unfolding run_items
items-append s [] ys = refl
items-append s (x ∷ xs) ys = items-append (step_item s x).0 xs ys

room-append : (s : Store) (xs ys : List Item) → RoomFor s xs → RoomFor (run_items s xs) ys → RoomFor s (xs ++ ys)
unfolding run_items
room-append s [] ys h k = k
room-append s (x ∷ xs) ys h k = (h.0, room-append (step_item s x).0 xs ys h.1 k)

-- an item with room is the ideal run of the calls that it is read as
item-view : (s : Store) (i : Item) → about_room (step_item s i).1 ≡ false → runᵢ (view s) (calls_of i) ≡ view (step_item s i).0
unfolding calls_read collect run_items
item-view s i r = ap (runᵢ (view s)) (sym (append-nil (calls_of i))) ∙ (items-view s (i ∷ []) (r, tt)).0

module _ (owner : Bytes → Key) (shard_of : Key → ℕ) (n : ℕ) where
  abbrev KeyOf : Call → Option Key
  KeyOf = key_by owner

  abbrev Of : Key → Bool
  Of k = eqb (shard_of k) n

  abbrev OfSender : Bytes → Bool
  OfSender a = Of (sender a)

  abbrev For : Item → List Item
  For = item_for KeyOf shard_of n

  -- the shard's part of a sweep
  abbrev PartOf : Sweep → Sweep
  PartOf w = sweep_of OfSender w.senders w.heads w.counts w.nonces w.numbers

  goes-by-sender : (a : Bytes) (head : ℕ) (known : List ℕ) → goes_to KeyOf shard_of n (poll a head known None) ≡ OfSender a
  unfolding goes_to concerns key_by
  goes-by-sender a head known = refl

  module _ (ours all : List Entry) (own : (a : Bytes) → OfSender a ≡ true → entries_of a ours ≡ entries_of a all) (w : Sweep) (e : sweep_input_refusal w ≡ None) where
    part_of : Part OfSender (goes_to KeyOf shard_of n) goes-by-sender ours all own w.numbers w.senders w.heads w.counts w.nonces (PartOf w)
    part_of = part OfSender (goes_to KeyOf shard_of n) goes-by-sender ours all own w.numbers w.senders w.heads w.counts w.nonces ((refused-unsound w).sound e)

    part-accepted : sweep_input_refusal (PartOf w) ≡ None
    part-accepted = (refused-unsound (PartOf w)).accepted part_of.sound

  -- ---- what a shard is sent is read as its calls

  item-is-read : (i : Item) → calls_read (For i) ≡ calls_for KeyOf shard_of n (calls_of i)
  unfolding calls_read collect calls_of item_for keep unrefused
  item-is-read (single q) = go (goes_to KeyOf shard_of n q.call)
    where
      go : (b : Bool) → calls_read (cond b (single q ∷ []) []) ≡ cond b (q.call ∷ []) []
      go true = refl
      go false = refl
  item-is-read (sweep w) = go (sweep_input_refusal w) refl
    where
      go : (o : Option ℕ) → sweep_input_refusal w ≡ o → calls_read (unrefused o (sweep (PartOf w) ∷ [])) ≡ calls_for KeyOf shard_of n (unrefused o (polls_of w))
      go (Some m) e = refl
      go None e = rw (part-accepted [] [] (λ a y. refl) w e, append-nil (polls_of (PartOf w))) (part_of [] [] (λ a y. refl) w e).polls

  -- ---- a shard of the one store has room for it

  module _ (s t : Store) (h : Good owner (view s)) (is : view t ≡ shard owner Of (view s)) (d : OneGuardAHash t.guards) where
    sweep-room : (w : Sweep) → sweep_input_refusal w ≡ None → about_room (step_item s (sweep w)).1 ≡ false → about_room (step_item t (sweep (PartOf w))).1 ≡ false
    unfolding step_item sweep_step sweep_refusal sweep_room_refusal sweep_effect unless when about_room
    sweep-room w e r = go (ltb w.numbers (19 * listed_entries w.senders (length w.heads) s.entries)) refl (rw e at r)
      where
        own : (a : Bytes) → OfSender a ≡ true → entries_of a t.entries ≡ entries_of a s.entries
        own = own-entries owner Of s t h is d

        go : (b : Bool) → ltb w.numbers (19 * listed_entries w.senders (length w.heads) s.entries) ≡ b →
            about_room (unless (when b 5) s (sweep_effect s w)).1 ≡ false → about_room (sweep_step t (PartOf w)).1 ≡ false
        go true q f = absurd (true≢false f)
        go false q f =
            let k = part_of t.entries s.entries own w e in
            let room : 19 * listed_entries w.senders (length w.heads) s.entries ≤ w.numbers = ltb-false _ _ q in
            rw (
              part-accepted t.entries s.entries own w e,
              le-ltb (PartOf w).numbers (19 * listed_entries (PartOf w).senders (length (PartOf w).heads) t.entries)
                  (omega (arith, k.lists, k.lends)),
            )

    item_room : (i : Item) → about_room (step_item s i).1 ≡ false → RoomFor t (For i)
    unfolding item_for goes_to step_item unrefused
    item_room (single q) r = go (goes_to KeyOf shard_of n q.call) refl
      where
        go : (b : Bool) → goes_to KeyOf shard_of n q.call ≡ b → RoomFor t (cond b (single q ∷ []) [])
        go true y = (step_room owner Of s t h is d q y r, tt)
        go false y = tt
    item_room (sweep w) r = go (sweep_input_refusal w) refl
      where
        go : (o : Option ℕ) → sweep_input_refusal w ≡ o → RoomFor t (unrefused o (sweep (PartOf w) ∷ []))
        go (Some m) e = tt
        go None e = (sweep-room w e r, tt)

    -- and is, after it, the shard of the one store after the item
    item-shard : (i : Item) → OwnedCalls owner (calls_of i) → about_room (step_item s i).1 ≡ false → view (run_items t (For i)) ≡ shard owner Of (view (step_item s i).0)
    unfolding goes_to
    item-shard i o r =
        sym (items-view t (For i) (item_room i r)).0 ∙ ap₂ runᵢ is (item-is-read i) ∙ shard-run owner Of (view s) h (calls_of i) o
        ∙ ap (shard owner Of) (item-view s i r)

  -- ---- lists of items

  -- a store that calls and sweeps lead to from an empty one
  abbrev Reached : Store → Type 0
  Reached t = (is : List Item) × (run_items empty is ≡ t)

  one-guard : (t : Store) → Reached t → OneGuardAHash t.guards
  one-guard t r = subst (λ (s : Store). OneGuardAHash s.guards) r.1 (every-run r.0).one_guard

  rooms : (s t : Store) → Good owner (view s) → view t ≡ shard owner Of (view s) → Reached t → (is : List Item) → OwnedCalls owner (calls_read is) → RoomFor s is →
      RoomFor t (items_for KeyOf shard_of n is)
  unfolding calls_read collect items_for
  rooms s t h e r [] o room = tt
  rooms s t h e r (i ∷ is) o room =
      let owned = each_append (OwnedCall owner) (calls_of i) (calls_read is) o in
      let one = one-guard t r in
      room-append t (For i) (items_for KeyOf shard_of n is) (item_room s t h e one i room.0)
      (rooms (step_item s i).0 (run_items t (For i)) (subst (Good owner) (item-view s i room.0) (run-good owner (view s) (calls_of i) owned.0 h))
      (item-shard s t h e one i owned.0 room.0)
      (r.0 ++ For i, items-append empty r.0 (For i) ∙ ap (λ (x : Store). run_items x (For i)) r.1) is owned.1 room.1)

-- ---- the rule

pub split-is-read : SplitIsRead
unfolding calls_read collect items_for keep
split-is-read owner shard_of n [] = refl
split-is-read owner shard_of n (i ∷ is) =
    collect-append calls_of (item_for (key_by owner) shard_of n i) (items_for (key_by owner) shard_of n is)
    ∙ ap₂ ◌++◌ (item-is-read owner shard_of n i) (split-is-read owner shard_of n is)
    ∙ sym (keep_append (goes_to (key_by owner) shard_of n) (calls_of i) (calls_read is))

pub splitting-rule : SplittingRule
unfolding run_items
splitting-rule is one room shard_of last bound = (
  split-room,
  (sharding-rule (calls_read is) one shard_of last (λ n. items_for (key_by owner) shard_of n is) bound (λ n l. split-is-read owner shard_of n is) (λ n l. split-room n)).1 is refl room,
)
  where
    owner : Bytes → Key
    owner = owner_in (calls_read is)

    split-room : (n : ℕ) → RoomFor empty (items_for (key_by owner) shard_of n is)
    split-room n = rooms owner shard_of n empty empty (good-empty owner) (empty-shard owner (λ k. eqb (shard_of k) n)) ([], refl) is
        (each_of (OwnedCall owner) (calls_read is) (owned-call (calls_read is) one)) room
