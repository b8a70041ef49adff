-- The last hash of a block is that of one of the shards (`last-of-one`), and none if no entry has one (`none_last`).
use Prim.Native.Nat.{ℕ, ◌≤◌}
use mathlib.Core.Path.{◌≡◌, refl, sym, ap, ◌∙◌}
use mathlib.Core.Logic.{◌⊎◌, inl, inr}
use mathlib.Core.Bool.{Bool, true, false, cond}
use mathlib.Core.List.{List, [], ◌∷◌}
use Rattle.std.specs.Prelude.{Option, None, Some}
use Rattle.lists.proofs.Options.{some-ne-none}
use lib.Dec.{eqb}
use borrow.Author.Tests.{eq-eqb}
use Rattle.lists.specs.Bytes.{Bytes}
use Rattle.lists.specs.Lists.{keep}
use Rattle.store_rules.specs.Frames.{State, tracked, tentative, Entry}
use Rattle.store_laws.specs.Listings.{hash_in, last_hash}

module _ (n : ℕ) where
  -- an entry that is not tentative at the block, or its hash
  abbrev Passes : State → Type 0
  Passes t = (o : Option Bytes) → hash_in n t o ≡ o

  abbrev Says : State → Bytes → Type 0
  Says t h = (o : Option Bytes) → hash_in n t o ≡ Some h

  either : (t : State) → Passes t ⊎ ((h : Bytes) × Says t h)
  unfolding hash_in
  either tracked = inl (λ o. refl)
  either (tentative c) = go (eqb c.block n)
    where
      go : (b : Bool) → ((o : Option Bytes) → cond b (Some c.block_hash) o ≡ o) ⊎ ((h : Bytes) × ((o : Option Bytes) → cond b (Some c.block_hash) o ≡ Some h))
      go true = inr (c.block_hash, λ o. refl)
      go false = inl (λ o. refl)

  -- ---- where no entry has a hash, none that is kept has

  still-some : (h : Bytes) (es : List Entry) → last_hash n (Some h) es ≡ None → ⊥
  unfolding last_hash
  still-some h [] e = some-ne-none h e
  still-some h (x ∷ es) e = go (either x.standing.state) (λ i. still-some i es)
    where
      go : Passes x.standing.state ⊎ ((i : Bytes) × Says x.standing.state i) → ((i : Bytes) → last_hash n (Some i) es ≡ None → ⊥) → ⊥
      go (inl same) ih = ih h (ap (λ (o : Option Bytes). last_hash n o es) (sym (same (Some h))) ∙ e)
      go (inr (i, says)) ih = ih i (ap (λ (o : Option Bytes). last_hash n o es) (sym (says (Some h))) ∙ e)

  pub none_last : (p : Entry → Bool) (before : Option Bytes) (es : List Entry) → last_hash n before es ≡ None → last_hash n before (keep p es) ≡ None
  unfolding last_hash keep
  none_last p before [] e = e
  none_last p before (x ∷ es) e = go (p x) (either x.standing.state) (none_last p (hash_in n x.standing.state before) es e)
    where
      go : (b : Bool) → Passes x.standing.state ⊎ ((h : Bytes) × Says x.standing.state h) → last_hash n (hash_in n x.standing.state before) (keep p es) ≡ None →
          last_hash n before (cond b (x ∷ keep p es) (keep p es)) ≡ None
      go true c h = h
      go false (inl same) h = ap (λ (o : Option Bytes). last_hash n o (keep p es)) (sym (same before)) ∙ h
      go false (inr (i, says)) h = absurd (still-some i es (ap (λ (o : Option Bytes). last_hash n o es) (sym (says before)) ∙ e))

  -- ---- the last hash is that of one shard

  module _ (shard_of : Entry → ℕ) (last : ℕ) (bound : (e : Entry) → shard_of e ≤ last) where
    -- the entries of a shard
    abbrev In : ℕ → List Entry → List Entry
    In m es = keep (λ e. eqb (shard_of e) m) es

    -- what is said of all entries is said of those of one shard
    abbrev SaidBy : Option Bytes → (ℕ → Option Bytes) → Type 0
    SaidBy one each = (m : ℕ) × (m ≤ last) × (one ≡ each m)

    -- one entry more: what each shard says, if the entry is its own
    module _ (e : Entry) where
      skipped : Passes e.standing.state → (b : Bool) (o : Option Bytes) (es : List Entry) → last_hash n o (cond b (e ∷ es) es) ≡ last_hash n o es
      unfolding last_hash
      skipped same true o es = ap (λ (x : Option Bytes). last_hash n x es) (same o)
      skipped same false o es = refl

      heard : (h : Bytes) → Says e.standing.state h → (b : Bool) (o : Option Bytes) (es : List Entry) → last_hash n o (cond b (e ∷ es) es) ≡ last_hash n (cond b (Some h) o) es
      unfolding last_hash
      heard h says true o es = ap (λ (x : Option Bytes). last_hash n x es) (says o)
      heard h says false o es = refl

    pub last-of-one : (one : Option Bytes) (each : ℕ → Option Bytes) → SaidBy one each → (es : List Entry) → SaidBy (last_hash n one es) (λ m. last_hash n (each m) (In m es))
    unfolding last_hash keep
    last-of-one one each s [] = s
    last-of-one one each s (e ∷ es) = go (either e.standing.state) (λ o f t. last-of-one o f t es)
      where
        go : Passes e.standing.state ⊎ ((h : Bytes) × Says e.standing.state h) →
            ((o : Option Bytes) (f : ℕ → Option Bytes) → SaidBy o f → SaidBy (last_hash n o es) (λ m. last_hash n (f m) (In m es))) →
            SaidBy (last_hash n (hash_in n e.standing.state one) es) (λ m. last_hash n (each m) (cond (eqb (shard_of e) m) (e ∷ In m es) (In m es)))
        go (inl same) ih =
            let r = ih one each s in
            (r.0, r.1, ap (λ (o : Option Bytes). last_hash n o es) (same one) ∙ r.2 ∙ sym (skipped e same (eqb (shard_of e) r.0) (each r.0) (In r.0 es)))
        go (inr (h, says)) ih =
            let r = ih (Some h) (λ m. cond (eqb (shard_of e) m) (Some h) (each m)) (shard_of e, bound e, rw (eq-eqb (shard_of e) (shard_of e) refl)) in
            (r.0, r.1, ap (λ (o : Option Bytes). last_hash n o es) (says one) ∙ r.2 ∙ sym (heard e h says (eqb (shard_of e) r.0) (each r.0) (In r.0 es)))
