-- The sharding rule (`Shards.ShardingRule`), proved: `sharding-rule`. A shard of an ideal run is the run of the shard's calls (order_rule,
-- `shard-run`); so the run is put together from its shards (`merged`).
use Prim.Native.Nat.{ℕ, zero, suc, ◌+◌, ◌≤◌}
use mathlib.Core.Path.{◌≡◌, refl, sym, ap, ap₂, ◌∙◌, subst, fun_ext}
use mathlib.Core.Bool.{Bool, true, false, cond, false≢true}
use mathlib.Core.List.Memᴰ
use mathlib.Core.List.{List, [], ◌∷◌, ◌++◌}
use Rattle.std.specs.Prelude.{Option, None, Some}
use lib.Dec.{eqb}
use lib.ListN.{length}
use Rattle.lists.specs.Bytes.{Bytes, eq_bytes}
use Rattle.lists.specs.Lists.{keep}
use Rattle.lists.proofs.ByteOrder.{eq_bytes-refl}
use Rattle.lists.proofs.Keeping.{each_of}
use Rattle.store_rules.specs.Frames.{Frame, Entry, Guard, Dead}
use Rattle.store_rules.specs.Rules.{reorg_rule, final_rule}
use Rattle.store_rules.specs.Store.{Store, empty, guard_of, Call, push, poll, guard, enter_tentative, evict_sender, check_reorg, check_finalized, Answer, frames, dead, effect, input_refusal, unless}
use Rattle.store_rules.specs.Sweeps.{Item, run_items}
use Rattle.store_rules.specs.Totals.{totals}
use Rattle.order_rule.specs.Orders.{Key, sender, eq_key, push_of, owner_by, owner_in, key_by, shown, calls_read, transcript_read, RoomFor}
use Rattle.order_rule.proofs.Ideal.{Ideal, Guards, view, trail, trailed, effectᵢ, unlessᵢ, stepᵢ, runᵢ, transcriptᵢ, seen, effect-view}
use Rattle.order_rule.proofs.Invariant.{OwnedCall, OwnedCalls, Good, step-good}
use Rattle.order_rule.proofs.Listed.{Ascends, trail-ascends, about-reorg, about-final, frame_of, dead_of}
use Rattle.order_rule.proofs.Shard.{ours, only, shard, our_list, our_answer, our_lines, shard-run, shard-transcript}
use Rattle.order_rule.proofs.Theorem.{run-good}
use Rattle.order_rule.proofs.Owner.{owned-call}
use Rattle.order_rule.proofs.Sweeps.{items-view}
use Rattle.sharding_rule.specs.Merging.{merge, gather, frames_in, dead_frames, join_answers}
use Rattle.sharding_rule.specs.Shards.{unlimited_step, unlimited_run, unlimited_transcript, goes_to, calls_for, merged_answer, MergedFrom, nothing, next, Sharded, Shardable, ShardingRule, ShardingRuleTold, OwnerSoFar}
use Rattle.sharding_rule.specs.Totals.{totals_told, add_totals}
use Rattle.sharding_rule.proofs.Once.{merged-as}
use Rattle.sharding_rule.proofs.Sums.{length-parts}
use Rattle.sharding_rule.proofs.Totals.{totals-are-told}
use Rattle.sharding_rule.proofs.Columns.{shard-totals}
use Rattle.sharding_rule.proofs.Merging.{By, gather-same, gather-keep}

-- ---- the store without limits of room is the ideal one

unlimited-step : (s : Store) (c : Call) → stepᵢ (view s) c ≡ seen (unlimited_step s c)
unfolding stepᵢ unlimited_step unlessᵢ unless seen
unlimited-step s c = go (input_refusal c)
  where
    go : (i : Option ℕ) → unlessᵢ i (view s) (effectᵢ (view s) c) ≡ seen (unless i s (effect s c))
    go (Some n) = refl
    go None = effect-view s c

unlimited-run : (s : Store) (cs : List Call) → runᵢ (view s) cs ≡ view (unlimited_run s cs)
unfolding runᵢ unlimited_run seen
unlimited-run s [] = refl
unlimited-run s (c ∷ cs) = ap (λ (r : Ideal × Answer). runᵢ r.0 cs) (unlimited-step s c) ∙ unlimited-run (unlimited_step s c).0 cs

unlimited-transcript : (s : Store) (cs : List Call) → transcriptᵢ (view s) cs ≡ unlimited_transcript s cs
unfolding transcriptᵢ unlimited_transcript seen
unlimited-transcript s [] = refl
unlimited-transcript s (c ∷ cs) =
    ap (λ (r : Ideal × Answer). (c, shown r.1) ∷ transcriptᵢ r.0 cs) (unlimited-step s c)
    ∙ ap (λ (l : List (Call × Answer)). (c, shown (unlimited_step s c).1) ∷ l) (unlimited-transcript (unlimited_step s c).0 cs)

-- ---- merged answers

gather-frames : (last : ℕ) (given : ℕ → List Frame) → gather join_answers last (λ n. frames (given n)) ≡ frames (gather (merge (λ f. f.from)) last given)
unfolding gather join_answers frames_in
gather-frames zero given = refl
gather-frames (suc last) given = ap (λ (a : Answer). join_answers a (frames (given (suc last)))) (gather-frames last given)

gather-dead : (last : ℕ) (given : ℕ → List Dead) → gather join_answers last (λ n. dead (given n)) ≡ dead (gather (merge (λ d. d.frame.from)) last given)
unfolding gather join_answers dead_frames
gather-dead zero given = refl
gather-dead (suc last) given = ap (λ (a : Answer). join_answers a (dead (given (suc last)))) (gather-dead last given)

-- ---- an empty store

module _ (owner : Bytes → Key) where
  pub good-empty : Good owner (view empty)
  unfolding view empty
  good-empty = record { sorted = tt; owned = tt }

  pub empty-shard : (p : Key → Bool) → view empty ≡ shard owner p (view empty)
  unfolding view empty shard only guard_of keep
  empty-shard p = ap (λ (G : Guards). record { entries = []; guards = G }) (fun_ext (λ h. nowhere (p (owner h))))
    where
      nowhere : (b : Bool) → ◌≡◌ {A = Option Guard} None (cond b None None)
      nowhere true = refl
      nowhere false = refl

-- ---- an ideal run and its shards

module _ (owner : Bytes → Key) (shard_of : Key → ℕ) (last : ℕ) (bound : (k : Key) → shard_of k ≤ last) where
  abbrev KeyOf : Call → Option Key
  KeyOf = key_by owner

  -- the keys of a shard
  abbrev Of : ℕ → Key → Bool
  Of n k = eqb (shard_of k) n

  -- what a shard has of a list
  abbrev PartOf : {A : Type 0} → (A → Bytes) → List A → ℕ → List A
  PartOf at l n = By at (λ a. Of n (sender a)) l

  parts-merge : {A : Type 0} (at : A → Bytes) (l : List A) → Ascends at l → gather (merge at) last (PartOf at l) ≡ l
  parts-merge at l h = gather-keep at (λ a. shard_of (sender a)) l h last (λ a. bound (sender a))

  -- what the shards tell of an answer, merged, is the answer
  answer-merges : (t : Ideal) → Good owner t → (c : Call) →
      merged_answer KeyOf shard_of last (KeyOf c) (λ n. our_answer owner (Of n) (KeyOf c) (shown (stepᵢ t c).1)) ≡ shown (stepᵢ t c).1
  unfolding key_by stepᵢ unlessᵢ input_refusal effectᵢ trailed shown merged_answer our_answer our_list ours
  answer-merges t h (push f) = refl
  answer-merges t h (poll a head known content) = refl
  answer-merges t h (guard g) = refl
  answer-merges t h (enter_tentative x c) = refl
  answer-merges t h (evict_sender a) = refl
  answer-merges t h (check_reorg b canonical) =
      let l = (trail (reorg_rule b canonical) t.entries t.guards).listed in
      gather-frames last (PartOf (λ f. f.from) l)
      ∙ ap frames (parts-merge (λ f. f.from) l (trail-ascends frame_of (reorg_rule b canonical) (about-reorg b canonical) t.entries t.guards h.sorted))
  answer-merges t h (check_finalized m) =
      let l = (trail (final_rule m) t.entries t.guards).listed in
      gather-dead last (PartOf (λ d. d.frame.from) l)
      ∙ ap dead (parts-merge (λ d. d.frame.from) l (trail-ascends dead_of (final_rule m) (about-final m) t.entries t.guards h.sorted))

  merged : (t : Ideal) → Good owner t → (cs : List Call) → OwnedCalls owner cs → MergedFrom KeyOf shard_of last (λ n. our_lines owner (Of n) (transcriptᵢ t cs)) (transcriptᵢ t cs)
  unfolding transcriptᵢ our_lines goes_to
  merged t h [] o = nothing (λ n l. refl)
  merged t h (c ∷ cs) o =
      subst (λ (a : Answer). MergedFrom KeyOf shard_of last (λ n. our_lines owner (Of n) ((c, shown (stepᵢ t c).1) ∷ rest)) ((c, a) ∷ rest)) (answer-merges t h c)
      (next c (λ n. our_answer owner (Of n) (KeyOf c) (shown (stepᵢ t c).1)) (λ n l. refl) (merged (stepᵢ t c).0 (step-good owner t c o.0 h) cs o.1))
    where
      rest : List (Call × Answer)
      rest = transcriptᵢ (stepᵢ t c).0 cs

  -- ---- runs from an empty store

  module _ (cs : List Call) (owned : OwnedCalls owner cs) (sent : ℕ → List Item) (read : (n : ℕ) → n ≤ last → calls_read (sent n) ≡ calls_for KeyOf shard_of n cs)
      (room : (n : ℕ) → n ≤ last → RoomFor empty (sent n)) where
    -- the one ideal run
    abbrev One : Ideal
    One = runᵢ (view empty) cs

    abbrev From : Entry → Bytes
    From e = e.frame.from

    abbrev Lines : List (Call × Answer)
    Lines = transcriptᵢ (view empty) cs

    store_is : (n : ℕ) → n ≤ last → view (run_items empty (sent n)) ≡ shard owner (Of n) One
    unfolding goes_to
    store_is n l =
        sym (items-view empty (sent n) (room n l)).0 ∙ ap₂ runᵢ (empty-shard owner (Of n)) (read n l) ∙ shard-run owner (Of n) (view empty) (good-empty owner) cs owned

    lines_are : (n : ℕ) → n ≤ last → transcript_read empty (sent n) ≡ our_lines owner (Of n) Lines
    unfolding goes_to
    lines_are n l =
        sym (items-view empty (sent n) (room n l)).1 ∙ ap₂ transcriptᵢ (empty-shard owner (Of n)) (read n l)
        ∙ shard-transcript owner (Of n) (view empty) (good-empty owner) cs owned

    -- one store whose run is the ideal one
    conclude : (one : Store) (lines : List (Call × Answer)) → One ≡ view one → Lines ≡ lines → Sharded owner shard_of last sent one lines
    unfolding view shard only ours
    conclude one lines e f = record {
      answers = merged-as KeyOf shard_of last bound lines_are
          (subst (MergedFrom KeyOf shard_of last (λ n. our_lines owner (Of n) Lines)) f (merged (view empty) (good-empty owner) cs owned));
      totals =
          ap (totals_told one) (sym f) ∙ shard-totals owner shard_of last bound (view empty) cs one (λ n. run_items empty (sent n)) counted
          ∙ gather-same add_totals last _ (λ n. totals empty (sent n))
          (λ n l. ap (totals_told (run_items empty (sent n))) (sym (lines_are n l)) ∙ sym (totals-are-told (sent n) (room n l)));
      sorted = good.sorted;
      owned = good.owned;
      held = held;
      entries = sym (gather-same (merge From) last (λ n. (run_items empty (sent n)).entries) (PartOf From one.entries) held ∙ parts-merge From one.entries good.sorted);
      guards = λ n l h. ap (λ (s : Ideal). s.guards h) (each-is n l);
    }
      where
        good : Good owner (view one)
        good = subst (Good owner) e (run-good owner (view empty) cs owned (good-empty owner))

        each-is : (n : ℕ) → n ≤ last → view (run_items empty (sent n)) ≡ shard owner (Of n) (view one)
        each-is n l = store_is n l ∙ ap (shard owner (Of n)) e

        held : (n : ℕ) → n ≤ last → (run_items empty (sent n)).entries ≡ PartOf From one.entries n
        held n l = ap (λ (s : Ideal). s.entries) (each-is n l)

        counted : length one.entries ≡ gather ◌+◌ last (λ n. length (run_items empty (sent n)).entries)
        counted =
            length-parts last (λ e. shard_of (sender (From e))) (λ e. bound (sender (From e))) one.entries
            ∙ gather-same ◌+◌ last _ (λ n. length (run_items empty (sent n)).entries) (λ n l. ap (λ (es : List Entry). length es) (sym (held n l)))

-- ---- the rule

shardable : (owner : Bytes → Key) (cs : List Call) → OwnedCalls owner cs → Shardable owner cs
shardable owner cs owned shard_of last sent bound read room = (
  conclude owner shard_of last bound cs owned sent read room (unlimited_run empty cs) (unlimited_transcript empty cs) (unlimited-run empty cs) (unlimited-transcript empty cs),
  λ is e h. let r = items-view empty is h in
      conclude owner shard_of last bound cs owned sent read room (run_items empty is) (transcript_read empty is)
      (ap (runᵢ (view empty)) (sym e) ∙ r.0) (ap (transcriptᵢ (view empty)) (sym e) ∙ r.1),
)

pub sharding-rule : ShardingRule
sharding-rule cs one = shardable (owner_in cs) cs (each_of (OwnedCall (owner_in cs)) cs (owned-call cs one))

pub sharding-rule-told : ShardingRuleTold
sharding-rule-told owner cs told = shardable owner cs (each_of (OwnedCall owner) cs (λ c m f e. told f (Memᴰ.cast (sym e) m)))

pub owner-so-far : OwnerSoFar
unfolding owner_in owner_by eq_key
owner-so-far [] ys h a e = absurd (false≢true (ap (λ (k : Key). eq_key k (sender a)) e ∙ eq_bytes-refl a))
owner-so-far (c ∷ xs) ys h a e = go (push_of c) e (owner-so-far xs ys h a)
  where
    go : (o : Option Frame) → owner_by o h (owner_in xs h) ≡ sender a → (owner_in xs h ≡ sender a → owner_in (xs ++ ys) h ≡ sender a) → owner_by o h (owner_in (xs ++ ys) h) ≡ sender a
    go None q ih = ih q
    go (Some f) q ih = pick (eq_bytes f.hash h) q
      where
        pick : (b : Bool) → cond b (sender f.from) (owner_in xs h) ≡ sender a → cond b (sender f.from) (owner_in (xs ++ ys) h) ≡ sender a
        pick true r = r
        pick false r = ih r
