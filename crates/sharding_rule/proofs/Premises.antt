-- The claims of `Premises`, by computation and the sharding rule.
use Prim.Native.Nat.{ℕ, zero, suc, ◌≤◌}
use native.Mathlib.Omega.{arith}
use mathlib.Core.Path.{◌≡◌, refl, ap}
use mathlib.Core.Bool.{Bool, true, false, ◌&&◌, cond}
use mathlib.Core.List.{List, [], ◌∷◌}
use Rattle.std.specs.Option.{option_or}
use lib.Dec.{eqb}
use lib.ListN.{length, get_or}
use borrow.Author.Tests.{eqb-false}
use Rattle.lists.specs.Bytes.{Bytes, eq_bytes, le_bytes}
use Rattle.lists.specs.Lists
use Rattle.lists.specs.Lists.{keep}
use Rattle.lists.specs.Search
use Rattle.store_rules.specs.Frames.{Entry, degraded, is_tracked}
use Rattle.store_rules.specs.Poll
use Rattle.store_rules.specs.Rules
use Rattle.store_rules.specs.Lookup
use Rattle.store_rules.specs.Store
use Rattle.store_rules.specs.Store.{empty}
use Rattle.store_rules.specs.Answers
use Rattle.store_rules.specs.Sweeps
use Rattle.store_rules.specs.Sweeps.{Item, run_items}
use Rattle.queries.specs.Queries
use Rattle.queries.specs.Queries.{Block}
use Rattle.order_rule.specs.Orders
use Rattle.order_rule.specs.Orders.{Key, owner_in, key_by, OneSender, calls_read, about_room}
use Rattle.order_rule.specs.Premises
use Rattle.order_rule.specs.Premises.{a, b, h, answers_of}
use Rattle.order_rule.proofs.Premises.{room, misfits, one-sender}
use Rattle.sharding_rule.specs.Merging
use Rattle.sharding_rule.specs.Merging.{gather}
use Rattle.sharding_rule.specs.Shards
use Rattle.sharding_rule.specs.Shards.{unlimited_run}
use Rattle.sharding_rule.specs.Splitting
use Rattle.sharding_rule.specs.Splitting.{items_for}
use Rattle.sharding_rule.specs.Premises.{two_shards, split, SentItsCalls, ShardsHaveRoom, AsOne, both_die, two_senders, one_enters, one_dies, finality_for_shard0, too_many, enters_with, beside, c, b_apart, Premises}
use Rattle.sharding_rule.proofs.Theorem.{sharding-rule}
use Rattle.sharding_rule.proofs.Splitting.{split-is-read}

-- ---- premises that computation settles

abbrev Roomy : List Item → Type 0
Roomy is = keep about_room (answers_of empty is) ≡ []

rooms : (sent : ℕ → List Item) → Roomy (sent 0) → Roomy (sent 1) → ShardsHaveRoom sent
rooms sent p q zero l = room empty (sent 0) p
rooms sent p q (suc zero) l = room empty (sent 1) q
rooms sent p q (suc (suc n)) l = absurd (omega arith)

read : (owner : Bytes → Key) (is : List Item) → SentItsCalls owner is (λ n. items_for (key_by owner) two_shards n is)
read owner is n l = split-is-read owner two_shards n is

bound : (k : Key) → two_shards k ≤ 1
unfolding two_shards
bound (Orders.sender x) = go (eq_bytes x a)
  where
    go : (c : Bool) → cond c 1 0 ≤ 1
    go true = omega arith
    go false = omega arith
bound (Orders.alone x) = omega arith

-- the shards hold another number of entries that pass a test than the one store does
apart : (owner : Bytes → Key) (last : ℕ) (is : List Item) (sent : ℕ → List Item) (p : Entry → Bool) →
    eqb (length (keep p (unlimited_run empty (calls_read is)).entries))
    (length (keep p (gather (Merging.merge (λ (e : Entry). e.frame.from)) last (λ n. (run_items empty (sent n)).entries)))) ≡ false →
    AsOne owner last is sent → ⊥
apart owner last is sent p n s = eqb-false _ _ n (ap (λ (l : List Entry). length (keep p l)) s.entries)

-- the first byte of the first block's hash
first_byte : List Block → ℕ
first_byte [] = 0
first_byte (x ∷ xs) = get_or x.block_hash 0 0

-- ---- the claims

pub premises : Premises
unfolding Sweeps.polls_from Sweeps.in_turn Sweeps.polls_in Sweeps.bad_lists Sweeps.bad_sum Sweeps.big_count Sweeps.sweep_input_refusal Sweeps.listed_entries Sweeps.sweep_room_refusal Sweeps.sweep_refusal Sweeps.sweep_effect Sweeps.sweep_step Sweeps.step_item run_items answers_of Answers.numbers_of Answers.row_numbers Lists.sum Lists.chunks Lists.collect Store.refusal Store.run empty Store.step Store.unless Store.input_refusal Store.room_refusal Store.row_width Store.effect Store.walk Store.walked Store.insert Store.fresh Lookup.enters Lookup.found_behind Lookup.first_of Lookup.lookup Lookup.is_found Lookup.enter_with Lookup.enter_head Lookup.enter_first is_tracked Store.guard_of Store.drop_guard Store.after Store.when Store.wide_gap Store.bad_content Store.listed Lookup.entries_of keep Search.first_at Lists.is_empty Lists.is_in Lists.numbers_from eq_bytes le_bytes degraded Poll.gap Poll.predecessors Poll.unknown Poll.guard_matches Poll.stay Poll.leave Poll.row Poll.poll_full Poll.poll_in Poll.poll_given Poll.poll_rule Rules.only_of Rules.final_in Rules.final_rule key_by owner_in Orders.owner_by Orders.push_of Orders.concerns Orders.transcript Orders.shown Orders.unrefused Orders.calls_of calls_read Orders.requests_of Orders.transcript_read about_room misfits a b h Premises.i Premises.frame Premises.ask Premises.parks Premises.parks_of Premises.enters100 Premises.finalized100 Premises.whole_gap Premises.sweeps Merging.into Merging.merge gather Merging.dead_frames Shards.unlimited_step unlimited_run Shards.unlimited_transcript Shards.goes_to Splitting.with_sender Splitting.sweep_of Splitting.item_for items_for two_shards both_die two_senders one_enters one_dies finality_for_shard0 too_many enters_with beside c b_apart Queries.put_block Queries.with_block Queries.blocks_from Queries.tentative_blocks first_byte
premises = record {
  together = (both, read owners both_die, both_room);
  as_one = (sharding-rule (calls_read both_die) both two_shards 1 (split both_die) bound (read owners both_die) both_room).0;
  walk_order = (refl, refl, refl, refl);
  one_sender = (
    read (owner_in (calls_read two_senders)) two_senders,
    rooms (split two_senders) refl refl,
    apart (owner_in (calls_read two_senders)) 1 two_senders (split two_senders) (λ e. eq_bytes e.frame.from b && is_tracked e.standing.state) refl,
  );
  told_owner = (
    one-sender (λ x. a) (calls_read one_enters) refl,
    read Orders.alone one_enters,
    rooms (λ n. items_for (key_by Orders.alone) two_shards n one_enters) refl refl,
    apart Orders.alone 1 one_enters (λ n. items_for (key_by Orders.alone) two_shards n one_enters) (λ e. is_tracked e.standing.state) refl,
  );
  sent_to_all = (
    one-sender (λ x. a) (calls_read one_dies) refl,
    rooms finality_for_shard0 refl refl,
    apart (owner_in (calls_read one_dies)) 1 one_dies finality_for_shard0 (λ e. true) refl,
  );
  placed = (
    one-sender (λ x. a) (calls_read one_enters) refl,
    read (owner_in (calls_read one_enters)) one_enters,
    rooms (split one_enters) refl refl,
    apart (owner_in (calls_read one_enters)) 0 one_enters (split one_enters) (λ e. true) refl,
  );
  room = (
    one-sender (λ x. a) (calls_read too_many) refl,
    read (owner_in (calls_read too_many)) too_many,
    apart (owner_in (calls_read too_many)) 1 too_many (split too_many) (λ e. true) refl,
  );
  blocks_of_shards = (refl, refl);
  blocks_of_one = λ e. eqb-false 6 5 refl (ap first_byte e);
}
  where
    owners : Bytes → Key
    owners = owner_in (calls_read both_die)

    both : OneSender (calls_read both_die)
    both = one-sender (λ x. cond (eq_bytes x h) b a) (calls_read both_die) refl

    both_room : ShardsHaveRoom (split both_die)
    both_room = rooms (split both_die) refl refl
