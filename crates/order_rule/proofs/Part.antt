-- One key's part of an ideal store, the shard of this key alone (`part`): its sender's entries, and the guards of the hashes it owns.
-- Between two calls without a key, a key's part of a run is the run of the key's calls on its part (`part-run`, `part-transcript`).
use mathlib.Core.Path.{◌≡◌, refl, sym, ap, ◌∙◌, subst}
use mathlib.Core.Bool.{Bool, true, false, false≢true}
use mathlib.Core.List.{List, [], ◌∷◌}
use Rattle.std.specs.Prelude.{Option, Some}
use Rattle.lists.specs.Bytes.{Bytes, eq_bytes, le_bytes}
use Rattle.lists.specs.Lists.{keep, Each}
use Rattle.lists.proofs.ByteOrder.{eq_bytes-refl, eq_bytes-true, clash}
use Rattle.lists.proofs.Keeping.{keep-on}
use Rattle.store_rules.specs.Frames.{Entry}
use Rattle.store_rules.specs.Store.{NotBefore, Call, Answer}
use Rattle.order_rule.specs.Orders.{Key, sender, alone, eq_key, key_by, concerns, is_for, of_key, Keyed, nothing, also}
use Rattle.order_rule.proofs.Ideal.{Ideal, stepᵢ, runᵢ, transcriptᵢ}
use Rattle.order_rule.proofs.Invariant.{OwnedCalls, Good}
use Rattle.order_rule.proofs.Shard.{shard, our_answer, our_lines, OurCalls, shard-run, shard-transcript}

-- ---- keys

pub eq_key-refl : (k : Key) → eq_key k k ≡ true
unfolding eq_key
eq_key-refl (sender a) = eq_bytes-refl a
eq_key-refl (alone h) = eq_bytes-refl h

pub eq_key-true : (j k : Key) → eq_key j k ≡ true → j ≡ k
unfolding eq_key
eq_key-true (sender a) (sender b) h = ap sender (eq_bytes-true a b h)
eq_key-true (sender a) (alone h) e = absurd (false≢true e)
eq_key-true (alone h) (sender a) e = absurd (false≢true e)
eq_key-true (alone h) (alone i) e = ap alone (eq_bytes-true h i e)

-- ---- a key's part

-- the entry's sender is this key
unfoldable pub mine : Key → Entry → Bool
mine k e = eq_key (sender e.frame.from) k

pub mine-is : (a : Bytes) (e : Entry) {b : Bool} → eq_bytes e.frame.from a ≡ b → mine (sender a) e ≡ b
unfolding mine eq_key
mine-is a e p = p

-- a sender of a lower address has no entry in a list that begins at or above a higher one
pub none_kept : (a b : Bytes) → le_bytes b a ≡ false → (es : List Entry) → Each (NotBefore b) es → keep (mine (sender a)) es ≡ []
unfolding keep
none_kept a b n [] h = refl
none_kept a b n (e ∷ es) h = go (eq_bytes e.frame.from a) refl (none_kept a b n es h.1)
  where
    go : (m : Bool) → eq_bytes e.frame.from a ≡ m → keep (mine (sender a)) es ≡ [] → keep (mine (sender a)) (e ∷ es) ≡ []
    go true p ih = clash (subst (λ (x : Bytes). le_bytes b x ≡ true) (eq_bytes-true e.frame.from a p) h.0) n
    go false p ih = rw (mine-is a e p) ih

module _ (owner : Bytes → Key) where
  -- the key of a call, and of a call with its answer
  abbrev pub KeyOf : Call → Option Key
  KeyOf = key_by owner

  abbrev pub KeyOfʰ : Call × Answer → Option Key
  KeyOfʰ t = key_by owner t.0

  pub keyed-transcript : (s : Ideal) {cs : List Call} → Keyed KeyOf cs → Keyed KeyOfʰ (transcriptᵢ s cs)
  unfolding transcriptᵢ
  keyed-transcript s nothing = nothing
  keyed-transcript s (also {x = c} j e r) = also j e (keyed-transcript (stepᵢ s c).0 r)

  module _ (k : Key) where
    abbrev Is : Key → Bool
    Is j = eq_key j k

    abbrev pub part : Ideal → Ideal
    part = shard owner Is

    -- ---- between two calls without a key, the calls that concern the part are the key's

    keyed-is : {o : Option Key} {j : Key} → o ≡ Some j → concerns Is o ≡ is_for k o
    unfolding concerns is_for
    keyed-is e = rw e

    keyed-calls : {cs : List Call} → Keyed KeyOf cs → OurCalls owner Is cs ≡ of_key KeyOf k cs
    unfolding of_key
    keyed-calls {cs} h = keep-on (λ c. concerns Is (KeyOf c)) (λ c. is_for k (KeyOf c)) cs (same h)
      where
        same : {ds : List Call} → Keyed KeyOf ds → Each (λ c. concerns Is (KeyOf c) ≡ is_for k (KeyOf c)) ds
        same nothing = tt
        same (also j e r) = (keyed-is e, same r)

    keyed-lines : {ts : List (Call × Answer)} → Keyed KeyOfʰ ts → our_lines owner Is ts ≡ of_key KeyOfʰ k ts
    unfolding our_lines our_answer of_key keep is_for concerns
    keyed-lines nothing = refl
    keyed-lines (also j e r) = rw (e, keyed-lines r)

    module _ (s : Ideal) (h : Good owner s) {cs : List Call} (keyed : Keyed KeyOf cs) (o : OwnedCalls owner cs) where
      pub part-run : runᵢ (part s) (of_key KeyOf k cs) ≡ part (runᵢ s cs)
      part-run = ap (runᵢ (part s)) (sym (keyed-calls keyed)) ∙ shard-run owner Is s h cs o

      pub part-transcript : transcriptᵢ (part s) (of_key KeyOf k cs) ≡ of_key KeyOfʰ k (transcriptᵢ s cs)
      part-transcript =
          ap (transcriptᵢ (part s)) (sym (keyed-calls keyed)) ∙ shard-transcript owner Is s h cs o ∙ keyed-lines (keyed-transcript s keyed)
