-- Every lookup finds what it should (`every-lookup`), and every entering changes the entry found (`every-entering`).
use Prim.Native.Nat.{suc, ◌<◌}
use native.Mathlib.Omega.{arith}
use mathlib.Core.Path.{◌≡◌, refl, subst}
use mathlib.Core.Bool.{Bool, true, false, not, cond}
use mathlib.Core.List.{List, [], ◌∷◌}
use Rattle.std.specs.Prelude.{Option, None, Some}
use Rattle.std.specs.Option.{option_map}
use lib.ListN.{length, get_or}
use Rattle.lists.specs.Bytes.{Bytes, eq_bytes}
use Rattle.lists.specs.Lists.{keep, is_empty}
use Rattle.lists.proofs.ByteOrder.{eq_bytes-refl}
use Rattle.store_rules.specs.Frames.{Consumed, Entry}
use Rattle.store_rules.specs.Lookup.{entries_of, enters, Found, found_behind, lookup, is_found, enter_with, enter_first}
use Rattle.store_rules.proofs.Lookups.{place_behind, behind, lookup-nil, lookup-cons, enter-cons}
use Rattle.store_laws.specs.Lookups.{Leads, EveryLookup, EveryEntering}

module _ (p : Entry → Bool) where
  found-exactly : (es : List Entry) → is_found (lookup p es) ≡ not (is_empty (keep p es))
  unfolding is_found keep is_empty
  found-exactly [] = rw (lookup-nil p)
  found-exactly (e ∷ es) = rw (lookup-cons p e es) (go (p e) (lookup p es) (found-exactly es))
    where
      go : (b : Bool) (o : Option Found) → is_found o ≡ not (is_empty (keep p es)) →
          is_found (cond b (Some (found_behind [] e)) (option_map (behind e) o)) ≡ not (is_empty (cond b (e ∷ keep p es) (keep p es)))
      go true o ih = refl
      go false None ih = ih
      go false (Some f) ih = ih

  -- what is found, if something is
  abbrev LeadsIf : List Entry → Option Found → Type 0
  LeadsIf es None = Unit {0}
  LeadsIf es (Some f) = Leads p es f

  leads-on : (e : Entry) (es : List Entry) (f : Found) → p e ≡ false → Leads p es f → Leads p (e ∷ es) (behind e f)
  unfolding behind place_behind keep entries_of
  leads-on e es f t l = record {
    first = λ d. rw t (l.first d);
    sender = l.sender;
    within = within (eq_bytes e.frame.from f.whose.sender);
    there = there (eq_bytes e.frame.from f.whose.sender);
  }
    where
      own : List Entry
      own = entries_of f.whose.sender es

      within : (b : Bool) → cond b (suc f.whose.place) f.whose.place < length (cond b (e ∷ own) own)
      within true = let w = l.within in omega arith
      within false = l.within

      there : (b : Bool) (d : Entry) → get_or (cond b (e ∷ own) own) (cond b (suc f.whose.place) f.whose.place) d ≡ f.entry
      there true d = l.there d
      there false d = l.there d

  leads-here : (e : Entry) (es : List Entry) → p e ≡ true → Leads p (e ∷ es) (found_behind [] e)
  unfolding found_behind keep entries_of
  leads-here e es t = record {
    first = λ d. rw t;
    sender = refl;
    within = rw (eq_bytes-refl e.frame.from) (omega arith);
    there = λ d. rw (eq_bytes-refl e.frame.from);
  }

  leads-if : (es : List Entry) → LeadsIf es (lookup p es)
  leads-if [] = rw (lookup-nil p) tt
  leads-if (e ∷ es) = rw (lookup-cons p e es) (go (p e) refl (lookup p es) (leads-if es))
    where
      go : (b : Bool) → p e ≡ b → (o : Option Found) → LeadsIf es o → LeadsIf (e ∷ es) (cond b (Some (found_behind [] e)) (option_map (behind e) o))
      go true t o ih = leads-here e es t
      go false t None ih = tt
      go false t (Some f) ih = leads-on e es f t ih

pub every-lookup : EveryLookup
every-lookup p es = record { exactly = found-exactly p es; leads = λ f q. subst (LeadsIf p es) q (leads-if p es) }

module _ (h : Bytes) (c : Consumed) where
  abbrev EnteredIf : List Entry → Option Found → Type 0
  EnteredIf es None = Unit {0}
  EnteredIf es (Some f) = (d : Entry) → get_or (entries_of f.whose.sender es) f.whose.place d ≡ enter_with c f.entry

  entered-if : (es : List Entry) → EnteredIf (enter_first h c es) (lookup (enters h) es)
  unfolding found_behind behind place_behind keep entries_of enter_with
  entered-if [] = rw (lookup-nil (enters h)) tt
  entered-if (e ∷ es) = rw (lookup-cons (enters h) e es, enter-cons h c e es) (go (enters h e) (lookup (enters h) es) (entered-if es))
    where
      go : (b : Bool) (o : Option Found) → EnteredIf (enter_first h c es) o →
          EnteredIf (cond b (enter_with c e ∷ es) (e ∷ enter_first h c es)) (cond b (Some (found_behind [] e)) (option_map (behind e) o))
      go true o ih = λ d. rw (eq_bytes-refl e.frame.from)
      go false None ih = tt
      go false (Some f) ih = there (eq_bytes e.frame.from f.whose.sender)
        where
          own : List Entry
          own = entries_of f.whose.sender (enter_first h c es)

          there : (b : Bool) (d : Entry) → get_or (cond b (e ∷ own) own) (cond b (suc f.whose.place) f.whose.place) d ≡ enter_with c f.entry
          there true d = ih d
          there false d = ih d

pub every-entering : EveryEntering
every-entering h c es f q = subst (EnteredIf h c (enter_first h c es)) q (entered-if h c es)
