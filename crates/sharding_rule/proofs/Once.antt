-- The shards' transcripts settle the one that is put together from them (`Shards.MergedOnce`): `merged-once`.
use Prim.Native.Nat.{ℕ, ◌≤◌}
use mathlib.Core.Path.{◌≡◌, refl, sym, ap, ap₂, ◌∙◌, subst}
use mathlib.Core.Bool.{Bool, true, false, cond}
use mathlib.Core.List.{List, ◌∷◌, map, nil≢cons, head-eq_of_cons-eq, tail-eq_of_cons-eq}
use Rattle.std.specs.Prelude.{Option, None, Some}
use borrow.Author.Tests.{eq-eqb}
use Rattle.store_rules.specs.Store.{Call, Answer}
use Rattle.order_rule.specs.Orders.{Key, concerns}
use Rattle.sharding_rule.specs.Merging.{join_answers}
use Rattle.sharding_rule.specs.Shards.{goes_to, merged_answer, MergedFrom, nothing, next, MergedOnce}
use Rattle.sharding_rule.proofs.Merging.{gather-same}

module _ (key_of : Call → Option Key) (shard_of : Key → ℕ) (last : ℕ) (bound : (k : Key) → shard_of k ≤ last) where
  abbrev Told : Type 0
  Told = ℕ → List (Call × Answer)

  -- transcripts that are equal are put together to the same one
  pub merged-as : {told same : Told} {lines : List (Call × Answer)} → ((n : ℕ) → n ≤ last → same n ≡ told n) →
      MergedFrom key_of shard_of last told lines → MergedFrom key_of shard_of last same lines
  merged-as e (nothing h) = nothing (λ n l. e n l ∙ h n l)
  merged-as e (next c given h r) = next c given (λ n l. e n l ∙ h n l) r

  -- one call: the answers of the shards that it goes to, and what each shard tells afterwards
  module _ (c : Call) (f g : ℕ → Answer) (later after : Told)
      (same : (n : ℕ) → n ≤ last → cond (goes_to key_of shard_of n c) ((c, f n) ∷ later n) (later n) ≡ cond (goes_to key_of shard_of n c) ((c, g n) ∷ after n) (after n)) where
    later_same : (n : ℕ) → n ≤ last → later n ≡ after n
    later_same n l = go (goes_to key_of shard_of n c) (same n l)
      where
        go : (b : Bool) → cond b ((c, f n) ∷ later n) (later n) ≡ cond b ((c, g n) ∷ after n) (after n) → later n ≡ after n
        go true e = tail-eq_of_cons-eq e
        go false e = e

    heard : (n : ℕ) → n ≤ last → goes_to key_of shard_of n c ≡ true → f n ≡ g n
    heard n l y = ap (λ (t : Call × Answer). t.1)
        (head-eq_of_cons-eq (subst (λ (b : Bool). cond b ((c, f n) ∷ later n) (later n) ≡ cond b ((c, g n) ∷ after n) (after n)) y (same n l)))

    answer-same : merged_answer key_of shard_of last (key_of c) f ≡ merged_answer key_of shard_of last (key_of c) g
    unfolding merged_answer goes_to concerns
    answer-same = go (key_of c) refl
      where
        go : (k : Option Key) → key_of c ≡ k → merged_answer key_of shard_of last k f ≡ merged_answer key_of shard_of last k g
        go (Some k) e = heard (shard_of k) (bound k) (rw e (eq-eqb (shard_of k) (shard_of k) refl))
        go None e = gather-same join_answers last f g (λ n l. heard n l (rw e))

  once : {told : Told} {xs ys : List (Call × Answer)} → map (λ t. t.0) xs ≡ map (λ t. t.0) ys →
      MergedFrom key_of shard_of last told xs → MergedFrom key_of shard_of last told ys → xs ≡ ys
  once e (nothing h) (nothing k) = refl
  once e (nothing h) (next c given k r) = absurd (nil≢cons e)
  once e (next c given h r) (nothing k) = absurd (nil≢cons (sym e))
  once {told} e (next {later = later} {lines = xs} c f h r) (next {later = after} {lines = ys} d g k s) =
      let q : c ≡ d = head-eq_of_cons-eq e in
      let same : (n : ℕ) → n ≤ last → cond (goes_to key_of shard_of n c) ((c, f n) ∷ later n) (later n) ≡ cond (goes_to key_of shard_of n c) ((c, g n) ∷ after n) (after n) =
      λ n l. sym (h n l) ∙ subst (λ (x : Call). told n ≡ cond (goes_to key_of shard_of n x) ((x, g n) ∷ after n) (after n)) (sym q) (k n l) in
      ap₂ (λ (t : Call × Answer) (l : List (Call × Answer)). t ∷ l)
      (ap (λ (a : Answer). (c, a)) (answer-same c f g later after same) ∙ ap (λ (x : Call). (x, merged_answer key_of shard_of last (key_of x) g)) q)
      (once (tail-eq_of_cons-eq e) r (merged-as (later_same c f g later after same) s))

pub merged-once : MergedOnce
merged-once key_of shard_of last bound told xs ys e r s = once key_of shard_of last bound e r s
