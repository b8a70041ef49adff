-- What is read from shards (`Readings.ReadsRule`), proved: `reads-rule`; and a push's total, `total-rule`.
use Prim.Native.Nat.{ℕ, ◌+◌, ◌≤◌}
use native.Mathlib.Omega.{arith}
use mathlib.Core.Path.{◌≡◌, refl, sym, ap, ◌∙◌}
use mathlib.Core.Bool.{Bool, true, false, ◌||◌, not, cond}
use mathlib.Core.List.{List, [], ◌∷◌, ◌++◌, append-nil}
use Rattle.std.specs.Prelude.{None}
use Rattle.std.specs.Option.{option_map}
use lib.Dec.{eqb}
use lib.ListN.{length}
use borrow.Author.Tests.{eq-eqb}
use Rattle.lists.specs.Bytes.{Bytes, eq_bytes, le_bytes, Before}
use Rattle.lists.specs.Lists.{keep, is_empty, collect, Pairwise}
use Rattle.lists.proofs.ByteOrder.{eq_bytes-true, clash}
use Rattle.lists.proofs.Keeping.{keep-on, keep-keep, keep_append, each_map, each_of}
use Rattle.lists.proofs.Elements.{each-kept}
use Rattle.store_rules.specs.Frames.{Entry, is_tracked}
use Rattle.store_rules.specs.Lookup.{entries_of, has_hash, lookup}
use Rattle.store_rules.proofs.Lookups.{lookup-keep}
use Rattle.store_rules.specs.Store.{Store, empty, Sorted, guard_of, is_guarded, Call, Answer, total, fresh, effect, unless}
use Rattle.store_rules.specs.Sweeps.{Item, run_items}
use Rattle.queries.specs.Queries.{state_in, state_of, boundary_in, expected_boundary, len, tentative_count, tentative_blocks, is_among, senders_from, senders, put_numbers, window, pool_known_gap, has_guard_for_sender}
use Rattle.order_rule.specs.Orders.{Key, sender}
use Rattle.order_rule.proofs.Listed.{Ascends}
use Rattle.store_laws.proofs.Listings.{last-hash, senders-ascending}
use Rattle.store_laws.specs.Listings.{hash_of, last_hash}
use Rattle.store_laws.proofs.Reachable.{insert-length}
use Rattle.sharding_rule.specs.Merging.{merge, gather}
use Rattle.sharding_rule.specs.Shards.{unlimited_step, Sharded}
use Rattle.sharding_rule.specs.Readings.{Reads, ReadsRule, TotalRule}
use Rattle.sharding_rule.proofs.Sums.{count-parts, length-parts}
use Rattle.sharding_rule.proofs.Blocks.{none_last, last-of-one}
use Rattle.sharding_rule.proofs.Merging.{By, gather-same, gather-keep}

-- ---- senders

among-kept : (p : Bytes → Bool) (a : Bytes) → p a ≡ true → (l : List Bytes) → is_among a (keep p l) ≡ is_among a l
unfolding is_among keep
among-kept p a y [] = refl
among-kept p a y (x ∷ xs) = go (p x) refl (eq_bytes x a) refl (among-kept p a y xs)
  where
    go : (b : Bool) → p x ≡ b → (c : Bool) → eq_bytes x a ≡ c → is_among a (keep p xs) ≡ is_among a xs → is_among a (cond b (x ∷ keep p xs) (keep p xs)) ≡ (c || is_among a xs)
    go true e c q ih = rw (q, ih)
    go false e true q ih = clash y (ap p (sym (eq_bytes-true x a q)) ∙ e)
    go false e false q ih = ih

-- the senders of the entries that a shard holds are those that it has
senders-kept : (p : Bytes → Bool) (seen : List Bytes) (es : List Entry) → senders_from (keep p seen) (keep (λ e. p e.frame.from) es) ≡ keep p (senders_from seen es)
unfolding senders_from keep
senders-kept p seen [] = refl
senders-kept p seen (e ∷ es) = go (p e.frame.from) refl (is_among e.frame.from seen) refl (λ l. senders-kept p l es)
  where
    a : Bytes
    a = e.frame.from

    kept : List Entry
    kept = keep (λ x. p x.frame.from) es

    go : (b : Bool) → p a ≡ b → (c : Bool) → is_among a seen ≡ c → ((l : List Bytes) → senders_from (keep p l) kept ≡ keep p (senders_from l es)) →
        senders_from (keep p seen) (cond b (e ∷ kept) kept) ≡ keep p (senders_from (cond c seen (seen ++ (a ∷ []))) es)
    go true y c q ih = ap (λ (b : Bool). senders_from (cond b (keep p seen) (keep p seen ++ (a ∷ []))) kept) (among-kept p a y seen ∙ q) ∙ pick c
      where
        pick : (d : Bool) → senders_from (cond d (keep p seen) (keep p seen ++ (a ∷ []))) kept ≡ keep p (senders_from (cond d seen (seen ++ (a ∷ []))) es)
        pick true = ih seen
        pick false = ap (λ (l : List Bytes). senders_from l kept) (sym (keep_append p seen (a ∷ []) ∙ rw y)) ∙ ih (seen ++ (a ∷ []))
    go false n true q ih = ih seen
    go false n false q ih = ap (λ (l : List Bytes). senders_from l kept) (sym (keep_append p seen (a ∷ []) ∙ rw (n, append-nil (keep p seen)))) ∙ ih (seen ++ (a ∷ []))

before-ascends : (l : List Bytes) → Pairwise Before l → Ascends (λ a. a) l
before-ascends [] h = tt
before-ascends (x ∷ xs) h = (each_map (Before x) (λ y. le_bytes x y ≡ true) xs (λ y b. b.0) h.0, before-ascends xs h.1)

senders-ascend : (s : Store) → Sorted s.entries → Ascends (λ a. a) (senders s)
unfolding senders
senders-ascend s h = before-ascends (senders_from [] s.entries) (senders-ascending [] s.entries h tt (each_of _ s.entries (λ e m. tt)))

-- ---- the rule

module _ (owner : Bytes → Key) (shard_of : Key → ℕ) (last : ℕ) (bound : (k : Key) → shard_of k ≤ last) (sent : ℕ → List Item) (one : Store) (lines : List (Call × Answer))
    (s : Sharded owner shard_of last sent one lines) where
  abbrev At : ℕ → Store
  At n = run_items empty (sent n)

  counted : (t : Entry → Bool) → length (keep t one.entries) ≡ gather ◌+◌ last (λ n. length (keep t (At n).entries))
  counted t =
      count-parts last (λ (e : Entry). shard_of (sender e.frame.from)) (λ e. bound (sender e.frame.from)) t one.entries
      ∙ gather-same ◌+◌ last _ (λ n. length (keep t (At n).entries)) (λ n l. ap (λ (es : List Entry). length (keep t es)) (sym (s.held n l)))

  all-counted : length one.entries ≡ gather ◌+◌ last (λ n. length (At n).entries)
  all-counted =
      length-parts last (λ (e : Entry). shard_of (sender e.frame.from)) (λ e. bound (sender e.frame.from)) one.entries
      ∙ gather-same ◌+◌ last _ (λ n. length (At n).entries) (λ n l. ap (λ (es : List Entry). length es) (sym (s.held n l)))

  senders-merged : senders one ≡ gather (merge (λ a. a)) last (λ n. senders (At n))
  unfolding senders keep
  senders-merged =
      sym (gather-same (merge (λ a. a)) last (λ n. senders (At n)) (λ n. By (λ a. a) (λ a. eqb (shard_of (sender a)) n) (senders one))
      (λ n l. ap (λ (es : List Entry). senders_from [] es) (s.held n l) ∙ senders-kept (λ a. eqb (shard_of (sender a)) n) [] one.entries)
      ∙ gather-keep (λ a. a) (λ a. shard_of (sender a)) (senders one) (senders-ascend one s.sorted) last (λ a. bound (sender a)))

  found : (h : Bytes) → lookup (has_hash h) one.entries ≡ lookup (has_hash h) (At (shard_of (owner h))).entries
  found h =
      sym (ap (lookup (has_hash h)) (s.held (shard_of (owner h)) (bound (owner h)))
      ∙ lookup-keep (has_hash h) (λ a. eqb (shard_of (sender a)) (shard_of (owner h))) one.entries
      (each_map _ _ one.entries (λ e o q. eq-eqb _ _ (ap shard_of (sym o ∙ ap owner (eq_bytes-true e.frame.hash h q)))) s.owned))

  block-hash : (block : ℕ) → (n : ℕ) × (n ≤ last) × (hash_of block (tentative_blocks one) ≡ hash_of block (tentative_blocks (At n)))
  unfolding tentative_blocks hash_of
  block-hash block =
      let r = last-of-one block (λ e. shard_of (sender e.frame.from)) last (λ e. bound (sender e.frame.from)) None (λ n. None) (0, omega arith, refl) one.entries in
      (r.0, r.1, last-hash block [] one.entries ∙ r.2 ∙ sym (last-hash block [] (At r.0).entries ∙ ap (last_hash block None) (s.held r.0 r.1)))

  block_listed : (block : ℕ) → hash_of block (tentative_blocks one) ≡ None → (n : ℕ) → n ≤ last → hash_of block (tentative_blocks (At n)) ≡ None
  unfolding tentative_blocks hash_of
  block_listed block e n l =
      last-hash block [] (At n).entries ∙ ap (last_hash block None) (s.held n l)
      ∙ none_last block (λ x. eqb (shard_of (sender x.frame.from)) n) None one.entries (sym (last-hash block [] one.entries) ∙ e)

  own : (a : Bytes) → entries_of a one.entries ≡ entries_of a (At (shard_of (sender a))).entries
  unfolding entries_of
  own a =
      sym (ap (keep (λ e. eq_bytes e.frame.from a)) (s.held (shard_of (sender a)) (bound (sender a)))
      ∙ keep-keep (λ e. eqb (shard_of (sender e.frame.from)) (shard_of (sender a))) (λ e. eq_bytes e.frame.from a)
      (λ e q. eq-eqb _ _ (ap (λ (b : Bytes). shard_of (sender b)) (eq_bytes-true e.frame.from a q))) one.entries)

  abbrev HasGuardIn : Store → Entry → Bool
  HasGuardIn t e = is_guarded (guard_of e.frame.hash t.guards)

  same-guard : (a : Bytes) (e : Entry) → eq_bytes e.frame.from a ≡ true → owner e.frame.hash ≡ sender e.frame.from → HasGuardIn one e ≡ HasGuardIn (At (shard_of (sender a))) e
  same-guard a e q o =
      ap is_guarded (sym (s.guards (shard_of (sender a)) (bound (sender a)) e.frame.hash
      ∙ ap (λ (b : Bool). cond b (guard_of e.frame.hash one.guards) None) (eq-eqb _ _ (ap shard_of (o ∙ ap sender (eq_bytes-true e.frame.from a q))))))

  guarded : (a : Bytes) → has_guard_for_sender a one ≡ has_guard_for_sender a (At (shard_of (sender a)))
  unfolding has_guard_for_sender entries_of
  guarded a =
      ap (λ (l : List Entry). not (is_empty l))
      (keep-on (HasGuardIn one) (HasGuardIn (At (shard_of (sender a)))) (entries_of a one.entries)
      (each-kept (λ e. eq_bytes e.frame.from a) _ (λ e. HasGuardIn one e ≡ HasGuardIn (At (shard_of (sender a))) e) (same-guard a) one.entries s.owned)
      ∙ ap (keep (HasGuardIn (At (shard_of (sender a))))) (own a))

  reads : Reads owner shard_of last At one
  unfolding state_of expected_boundary len tentative_count pool_known_gap
  reads = record {
    state = λ h. ap (option_map state_in) (found h);
    expected_boundary = λ h. ap (option_map boundary_in) (found h);
    pool_known_gap = λ a head pending_count. ap (λ (l : List Entry). put_numbers (collect (window head pending_count) l) []) (own a);
    has_guard_for_sender = guarded;
    senders = senders-merged;
    block_hash = block-hash;
    block_listed = block_listed;
    len = all-counted;
    tentative_count = counted (λ e. not (is_tracked e.standing.state));
  }

pub reads-rule : ReadsRule
reads-rule = reads

pub total-rule : TotalRule
unfolding unlimited_step unless effect len
total-rule s f e = rw e (ap total (sym (insert-length (fresh f) s.entries)))
