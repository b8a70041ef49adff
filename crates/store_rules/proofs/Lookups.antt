-- The laws of the lookup and of entering: an entry in front, where the entry found stands, and what other senders' entries change.
use Prim.Native.Nat.{ℕ, zero, suc, ◌<◌}
use native.Mathlib.Omega.{arith}
use mathlib.Core.Path.{◌≡◌, refl, sym, ap, ◌∙◌, subst}
use mathlib.Core.Bool.{Bool, true, false, cond, false≢true}
use mathlib.Core.List.{List, [], ◌∷◌, ◌++◌}
use Rattle.std.specs.Prelude.{Option, None, Some}
use Rattle.std.specs.Option.{option_map}
use Rattle.lists.proofs.Options.{some-ne-none}
use lib.ListN.{length, take, drop, take-append-drop}
use Rattle.lists.specs.Bytes.{Bytes, eq_bytes}
use Rattle.lists.specs.Lists.{keep, Each}
use Rattle.lists.specs.Search.{first_at}
use Rattle.lists.proofs.ByteOrder.{clash, eq_bytes-true}
use Rattle.store_rules.specs.Frames.{Consumed, Entry}
use Rattle.store_rules.specs.Lookup.{entries_of, enters, Whose, Found, found_behind, first_of, lookup, is_found, enter_with, enter_head, enter_first}

-- ---- an entry in front

-- the place with an entry more in front
unfoldable pub place_behind : Entry → Whose → ℕ
place_behind e w = cond (eq_bytes e.frame.from w.sender) (suc w.place) w.place

-- what was found, with an entry more in front
unfoldable pub behind : Entry → Found → Found
behind e f = record { entry = f.entry; whose = record { sender = f.whose.sender; place = place_behind e f.whose } }

first-behind : (e : Entry) (before rest : List Entry) → first_of (e ∷ before) rest ≡ option_map (behind e) (first_of before rest)
unfolding first_of found_behind behind place_behind entries_of keep
first-behind e before [] = refl
first-behind e before (x ∷ rest) = go (eq_bytes e.frame.from x.frame.from)
  where
    own : List Entry
    own = keep (λ y. eq_bytes y.frame.from x.frame.from) before

    at : ℕ → Option Found
    at n = Some (record { entry = x; whose = record { sender = x.frame.from; place = n } })

    go : (b : Bool) → at (length (cond b (e ∷ own) own)) ≡ at (cond b (suc (length own)) (length own))
    go true = refl
    go false = refl

pub lookup-nil : (p : Entry → Bool) → lookup p [] ≡ None
unfolding lookup first_at first_of
lookup-nil p = refl

-- the first entry is found, or what is found behind it
pub lookup-cons : (p : Entry → Bool) (e : Entry) (es : List Entry) →
    lookup p (e ∷ es) ≡ cond (p e) (Some (found_behind [] e)) (option_map (behind e) (lookup p es))
unfolding lookup first_at first_of
lookup-cons p e es = go (p e)
  where
    k : ℕ
    k = first_at p es

    go : (b : Bool) → first_of (take (cond b zero (suc k)) (e ∷ es)) (drop (cond b zero (suc k)) (e ∷ es))
        ≡ cond b (Some (found_behind [] e)) (option_map (behind e) (first_of (take k es) (drop k es)))
    go true = refl
    go false = first-behind e (take k es) (drop k es)

pub enter-cons : (h : Bytes) (c : Consumed) (e : Entry) (es : List Entry) → enter_first h c (e ∷ es) ≡ cond (enters h e) (enter_with c e ∷ es) (e ∷ enter_first h c es)
unfolding enter_first enter_head first_at
enter-cons h c e es = go (enters h e)
  where
    k : ℕ
    k = first_at (enters h) es

    go : (b : Bool) → take (cond b zero (suc k)) (e ∷ es) ++ enter_head c (drop (cond b zero (suc k)) (e ∷ es))
        ≡ cond b (enter_with c e ∷ es) (e ∷ (take k es ++ enter_head c (drop k es)))
    go true = refl
    go false = refl

-- ---- where nothing is found

enter-nothing : (c : Consumed) (before rest : List Entry) → first_of before rest ≡ None → before ++ enter_head c rest ≡ before ++ rest
unfolding first_of enter_head
enter-nothing c before [] e = refl
enter-nothing c before (x ∷ rest) e = absurd (some-ne-none (found_behind before x) e)

pub enter-none : (h : Bytes) (c : Consumed) (es : List Entry) → lookup (enters h) es ≡ None → enter_first h c es ≡ es
unfolding lookup enter_first
enter-none h c es e = enter-nothing c (take (first_at (enters h) es) es) (drop (first_at (enters h) es) es) e ∙ take-append-drop (first_at (enters h) es) es

-- ---- where something is found

found_within : (before es : List Entry) (k : ℕ) → is_found (first_of before (drop k es)) ≡ true → k < length es
unfolding first_of is_found
found_within before [] zero e = absurd (false≢true e)
found_within before [] (suc k) e = absurd (false≢true e)
found_within before (x ∷ es) zero e = omega arith
found_within before (x ∷ es) (suc k) e = let h = found_within before es k e in omega arith

pub first-within : (p : Entry → Bool) (es : List Entry) → is_found (lookup p es) ≡ true → first_at p es < length es
unfolding lookup
first-within p es e = found_within (take (first_at p es) es) es (first_at p es) e

-- ---- other senders' entries

module _ (p : Entry → Bool) (q : Bytes → Bool) where
  -- only entries of such senders pass the test
  abbrev Only : List Entry → Type 0
  Only = Each (λ e. p e ≡ true → q e.frame.from ≡ true)

  abbrev SenderPasses : Option Found → Type 0
  SenderPasses None = Unit {0}
  SenderPasses (Some f) = q f.whose.sender ≡ true

  sender-behind : (e : Entry) (o : Option Found) → SenderPasses o → SenderPasses (option_map (behind e) o)
  unfolding behind
  sender-behind e None h = h
  sender-behind e (Some f) h = h

  sender-passes : (es : List Entry) → Only es → SenderPasses (lookup p es)
  unfolding found_behind
  sender-passes [] h = rw (lookup-nil p) tt
  sender-passes (e ∷ es) h = rw (lookup-cons p e es) (go (p e) h.0 (sender-passes es h.1))
    where
      go : (b : Bool) → (b ≡ true → q e.frame.from ≡ true) → SenderPasses (lookup p es) →
          SenderPasses (cond b (Some (found_behind [] e)) (option_map (behind e) (lookup p es)))
      go true y ih = y refl
      go false y ih = sender-behind e (lookup p es) ih

  -- an entry of another sender does not move what was found
  unmoved : (e : Entry) → q e.frame.from ≡ false → (o : Option Found) → SenderPasses o → o ≡ option_map (behind e) o
  unfolding behind place_behind
  unmoved e n None h = refl
  unmoved e n (Some f) h = go (eq_bytes e.frame.from f.whose.sender) refl
    where
      at : ℕ → Option Found
      at m = Some (record { entry = f.entry; whose = record { sender = f.whose.sender; place = m } })

      go : (b : Bool) → eq_bytes e.frame.from f.whose.sender ≡ b → at f.whose.place ≡ at (cond b (suc f.whose.place) f.whose.place)
      go true t = clash (subst (λ (a : Bytes). q a ≡ true) (sym (eq_bytes-true e.frame.from f.whose.sender t)) h) n
      go false t = refl

  pub lookup-keep : (es : List Entry) → Only es → lookup p (keep (λ e. q e.frame.from) es) ≡ lookup p es
  unfolding keep
  lookup-keep [] h = refl
  lookup-keep (e ∷ es) h = go (q e.frame.from) refl (p e) refl (lookup-keep es h.1)
    where
      kept : List Entry
      kept = keep (λ x. q x.frame.from) es

      go : (m : Bool) → q e.frame.from ≡ m → (b : Bool) → p e ≡ b → lookup p kept ≡ lookup p es → lookup p (cond m (e ∷ kept) kept) ≡ lookup p (e ∷ es)
      go true y b t ih = lookup-cons p e kept ∙ ap (λ (o : Option Found). cond (p e) (Some (found_behind [] e)) (option_map (behind e) o)) ih ∙ sym (lookup-cons p e es)
      go false n true t ih = clash (h.0 t) n
      go false n false t ih = ih ∙ unmoved e n (lookup p es) (sender-passes es h.1) ∙ rw (lookup-cons p e es, t)
