-- What holds of every ideal store that calls lead to: its entries are in walk order, and each hash in it is owned by the
-- sender of its entry (`Good`). The owner of a hash is a parameter, so that no lemma here hangs on how it is found.
use mathlib.Core.Path.{◌≡◌, refl, sym, ap, subst}
use mathlib.Core.Bool.{Bool, true, false, cond}
use mathlib.Core.List.{List, [], ◌∷◌}
use Rattle.std.specs.Prelude.{Option, None, Some}
use lib.ListN.{length}
use Prim.Native.Nat.{ℕ, ◌≤◌}
use native.Mathlib.Omega.{arith}
use Rattle.lists.specs.Bytes.{Bytes, eq_bytes, le_bytes}
use Rattle.lists.proofs.ByteOrder.{le_bytes-trans, le_bytes-total}
use Rattle.store_rules.specs.Frames.{Frame, Consumed, Standing, Entry, Guard, Visit}
use Rattle.store_rules.specs.Lookup.{entries_of, enters, enter_with, enter_first}
use Rattle.store_rules.proofs.Lookups.{lookup-nil, enter-cons, enter-none}
use Rattle.store_rules.specs.Store.{NotBefore, Sorted, Call, push, poll, guard, enter_tentative, evict_sender, check_reorg, check_finalized, after, insert, fresh, input_refusal}
use Rattle.order_rule.specs.Orders.{Key, sender}
use Rattle.lists.specs.Lists.{keep, Each}
use Rattle.lists.proofs.Keeping.{each_map}
use Rattle.order_rule.proofs.Ideal.{Ideal, Guards, behind, trail, trailed, effectᵢ, unlessᵢ, stepᵢ}

-- ---- the same frames in the same order, some left out

pub data Thinner : List Entry → List Entry → Type 0 where
  nothing : Thinner [] []
  skip : {fs es : List Entry} {e : Entry} → Thinner fs es → Thinner fs (e ∷ es)
  also : {fs es : List Entry} {f e : Entry} → f.frame ≡ e.frame → Thinner fs es → Thinner (f ∷ fs) (e ∷ es)

pub thinner-each : (P : Frame → Type 0) {fs es : List Entry} → Thinner fs es → Each (λ e. P e.frame) es → Each (λ e. P e.frame) fs
thinner-each P nothing h = tt
thinner-each P (skip t) h = thinner-each P t h.1
thinner-each P (also q t) h = (subst P (sym q) h.0, thinner-each P t h.1)

pub thinner-length : {fs es : List Entry} → Thinner fs es → length fs ≤ length es
thinner-length nothing = omega arith
thinner-length (skip t) = let l = thinner-length t in omega arith
thinner-length (also q t) = let l = thinner-length t in omega arith

-- a sender's entries are thinned with the others
pub thinner-of : (a : Bytes) {fs es : List Entry} → Thinner fs es → Thinner (entries_of a fs) (entries_of a es)
unfolding entries_of keep
thinner-of a nothing = nothing
thinner-of a (skip {fs = fs} {es = es} {e = e} t) = go (eq_bytes e.frame.from a) (thinner-of a t)
  where
    go : (b : Bool) → Thinner (entries_of a fs) (entries_of a es) → Thinner (entries_of a fs) (cond b (e ∷ entries_of a es) (entries_of a es))
    go true r = skip r
    go false r = r
thinner-of a (also {fs = fs} {es = es} {f = f} {e = e} q t) = rw (ap (λ (x : Frame). eq_bytes x.from a) q) (go (eq_bytes e.frame.from a) (thinner-of a t))
  where
    go : (b : Bool) → Thinner (entries_of a fs) (entries_of a es) → Thinner (cond b (f ∷ entries_of a fs) (entries_of a fs)) (cond b (e ∷ entries_of a es) (entries_of a es))
    go true r = also q r
    go false r = r

thinner-sorted : {fs es : List Entry} → Thinner fs es → Sorted es → Sorted fs
thinner-sorted nothing h = tt
thinner-sorted (skip t) h = thinner-sorted t h.1
thinner-sorted (also {es = es} {f = f} q t) h = (
  thinner-each (λ (x : Frame). le_bytes f.frame.from x.from ≡ true) t
      (subst (λ (x : Frame). Each (NotBefore x.from) es) (sym q) h.0),
  thinner-sorted t h.1,
)

thinner-refl : (es : List Entry) → Thinner es es
thinner-refl [] = nothing
thinner-refl (e ∷ es) = also refl (thinner-refl es)

after-thinner : (o : Option Standing) (e : Entry) {fs es : List Entry} → Thinner fs es → Thinner (after o e.frame fs) (e ∷ es)
unfolding after
after-thinner None e t = skip t
after-thinner (Some s) e t = also refl t

pub trail-thinner : {A : Type 0} (rule : Option Guard → Entry → Visit A) (es : List Entry) (G : Guards) → Thinner (trail rule es G).entries es
unfolding trail behind
trail-thinner rule [] G = nothing
trail-thinner rule (e ∷ es) G = after-thinner (rule (G e.frame.hash) e).stays e (trail-thinner rule es _)

enter-thinner : (h : Bytes) (c : Consumed) (es : List Entry) → Thinner (enter_first h c es) es
unfolding enter_with
enter-thinner h c [] = rw (enter-none h c [] (lookup-nil (enters h))) nothing
enter-thinner h c (e ∷ es) = rw (enter-cons h c e es) (go (enters h e) (enter-thinner h c es))
  where
    go : (b : Bool) → Thinner (enter_first h c es) es → Thinner (cond b (enter_with c e ∷ es) (e ∷ enter_first h c es)) (e ∷ es)
    go true t = also refl (thinner-refl es)
    go false t = also refl t

-- ---- a frame more

pub insert-each : (P : Entry → Type 0) (e : Entry) (es : List Entry) → P e → Each P es → Each P (insert e es)
unfolding insert
insert-each P e [] p h = (p, tt)
insert-each P e (f ∷ fs) p h = go (le_bytes f.frame.from e.frame.from) (insert-each P e fs p h.1)
  where
    go : (b : Bool) → Each P (insert e fs) → Each P (cond b (f ∷ insert e fs) (e ∷ f ∷ fs))
    go true t = (h.0, t)
    go false t = (p, h)

insert-sorted : (e : Entry) (es : List Entry) → Sorted es → Sorted (insert e es)
unfolding insert
insert-sorted e [] h = (tt, tt)
insert-sorted e (f ∷ fs) h = go (le_bytes f.frame.from e.frame.from) refl (insert-sorted e fs h.1)
  where
    go : (b : Bool) → le_bytes f.frame.from e.frame.from ≡ b → Sorted (insert e fs) → Sorted (cond b (f ∷ insert e fs) (e ∷ f ∷ fs))
    go true p t = (insert-each (NotBefore f.frame.from) e fs p h.0, t)
    go false p t =
        let q : le_bytes e.frame.from f.frame.from ≡ true = le_bytes-total f.frame.from e.frame.from p in (
          (q, each_map (NotBefore f.frame.from) (NotBefore e.frame.from) fs (λ x l. le_bytes-trans e.frame.from f.frame.from x.frame.from q l) h.0),
          h,
        )

-- ---- every call but a push thins the entries, and a push inserts one

-- the entries that a call leaves
abbrev pub Left : Ideal → Call → List Entry
Left s c = (effectᵢ s c).0.entries

pub data Change (s : Ideal) (c : Call) : Type 0 where
  thinned : Thinner (Left s c) s.entries → Change s c
  inserted : (f : Frame) → c ≡ push f → Left s c ≡ insert (fresh f) s.entries → Change s c

pub change : (s : Ideal) (c : Call) → Change s c
unfolding effectᵢ trailed
change s (push f) = inserted f refl refl
change s (poll a head known content) = thinned (trail-thinner _ s.entries s.guards)
change s (guard g) = thinned (thinner-refl s.entries)
change s (enter_tentative x c) = thinned (enter-thinner x c s.entries)
change s (evict_sender a) = thinned (trail-thinner _ s.entries s.guards)
change s (check_reorg b canonical) = thinned (trail-thinner _ s.entries s.guards)
change s (check_finalized n) = thinned (trail-thinner _ s.entries s.guards)

pub effect-sorted : (s : Ideal) (c : Call) → Sorted s.entries → Sorted (effectᵢ s c).0.entries
effect-sorted s c h = go (change s c)
  where
    go : Change s c → Sorted (Left s c)
    go (thinned t) = thinner-sorted t h
    go (inserted f e q) = subst Sorted (sym q) (insert-sorted (fresh f) s.entries h)

-- ---- ownership

module _ (owner : Bytes → Key) where
  abbrev pub OwnedFrame : Frame → Type 0
  OwnedFrame f = owner f.hash ≡ sender f.from

  abbrev pub Owned : List Entry → Type 0
  Owned = Each (λ e. OwnedFrame e.frame)

  -- a push is by the owner of its hash
  abbrev pub OwnedCall : Call → Type 0
  OwnedCall c = (f : Frame) → c ≡ push f → OwnedFrame f

  abbrev pub OwnedCalls : List Call → Type 0
  OwnedCalls = Each OwnedCall

  pub record Good (s : Ideal) : Type 0 where
    pub sorted : Sorted s.entries
    pub owned : Owned s.entries

  effect-owned : (s : Ideal) (c : Call) → OwnedCall c → Owned s.entries → Owned (Left s c)
  unfolding fresh
  effect-owned s c o h = go (change s c)
    where
      go : Change s c → Owned (Left s c)
      go (thinned t) = thinner-each OwnedFrame t h
      go (inserted f e q) = subst Owned (sym q) (insert-each _ (fresh f) s.entries (o f e) h)

  pub step-good : (s : Ideal) (c : Call) → OwnedCall c → Good s → Good (stepᵢ s c).0
  unfolding stepᵢ unlessᵢ
  step-good s c o h = go (input_refusal c)
    where
      go : (i : Option ℕ) → Good (unlessᵢ i s (effectᵢ s c)).0
      go (Some n) = h
      go None = record { sorted = effect-sorted s c h.sorted; owned = effect-owned s c o h.owned }
