-- The owner of a hash, as it is found in a list of calls; two orders of the same calls have the same members, and so the same
-- owners (`same-owner`: it is immaterial that `OrderRule` reads the keys from the first list).
use mathlib.Core.Path.{◌≡◌, refl, sym, ap, ◌∙◌, subst}
use mathlib.Core.Logic.{◌⊎◌, inl, inr}
use mathlib.Core.Bool.{Bool, true, false, cond}
use mathlib.Core.List.Memᴰ
use mathlib.Core.List.{List, [], ◌∷◌, ◌++◌, Memᴰ}
use Rattle.std.specs.Prelude.{Option, None, Some}
use Rattle.lists.proofs.Options.{some-injective, none-ne-some}
use Rattle.lists.specs.Bytes.{Bytes, eq_bytes}
use Rattle.lists.proofs.ByteOrder.{eq_bytes-true, eq_bytes-of, clash}
use Rattle.lists.proofs.Keeping.{mem-keep, keep-mem}
use Rattle.store_rules.specs.Frames.{Frame, Entry}
use Rattle.store_rules.specs.Store.{Call, push, poll, guard, enter_tentative, evict_sender, check_reorg, check_finalized}
use Rattle.order_rule.specs.Orders.{Key, sender, alone, push_of, owner_by, owner_in, pushes_of, key_by, OneSender, is_for, of_key, Keyed, nothing, also, SameCalls, TwoOrders, rest, cut}
use Rattle.order_rule.proofs.Invariant.{OwnedCall}
use Rattle.order_rule.proofs.Part.{eq_key-refl}

-- ---- the calls of the second list are those of the first

module _ {A : Type 0} (key_of : A → Option Key) where
  key-of : {xs : List A} → Keyed key_of xs → (x : A) → Memᴰ x xs → (k : Key) × (key_of x ≡ Some k)
  key-of nothing x m = absurd (Memᴰ.not-nil m)
  key-of (also {x = y} {xs = ys} k e r) x m = go (Memᴰ.cases_cons m) (key-of r x)
    where
      go : (x ≡ y) ⊎ Memᴰ x ys → (Memᴰ x ys → (j : Key) × (key_of x ≡ Some j)) → (j : Key) × (key_of x ≡ Some j)
      go (inl q) ih = (k, ap key_of q ∙ e)
      go (inr n) ih = ih n

  same_mem : {s t : List A} → SameCalls key_of s t → (x : A) → Memᴰ x t → Memᴰ x s
  unfolding of_key is_for
  same_mem {s} {t} h x m =
      let r = key-of h.keyed.1 x m in
      keep-mem (λ y. is_for r.0 (key_of y)) x s
      (subst (Memᴰ x) (sym (h.same r.0)) (mem-keep (λ y. is_for r.0 (key_of y)) x t (ap (is_for r.0) r.1 ∙ eq_key-refl r.0) m))

  pub orders-mem : {xs ys : List A} → TwoOrders key_of xs ys → (x : A) → Memᴰ x ys → Memᴰ x xs
  orders-mem (rest h) x m = same_mem h x m
  orders-mem (cut {s = s} {t = t} {xs = xs} {ys = ys} {g = g} h e more) x m = go (Memᴰ.append_cases t m) (λ n. orders-mem more x n)
    where
      second : (x ≡ g) ⊎ Memᴰ x ys → (Memᴰ x ys → Memᴰ x xs) → Memᴰ x (g ∷ xs)
      second (inl q) ih = Memᴰ.head q
      second (inr n) ih = Memᴰ.tail (ih n)

      go : Memᴰ x t ⊎ Memᴰ x (g ∷ ys) → (Memᴰ x ys → Memᴰ x xs) → Memᴰ x (s ++ g ∷ xs)
      go (inl n) ih = Memᴰ.append_left (g ∷ xs) (same_mem h x n)
      go (inr n) ih = Memᴰ.append_right s (second (Memᴰ.cases_cons n) ih)

-- ---- the owner found in the list

push-of : (c : Call) (f : Frame) → push_of c ≡ Some f → c ≡ push f
unfolding push_of
push-of (push g) f e = ap push (some-injective g f e)
push-of (poll a head known content) f e = absurd (none-ne-some f e)
push-of (guard g) f e = absurd (none-ne-some f e)
push-of (enter_tentative h c) f e = absurd (none-ne-some f e)
push-of (evict_sender a) f e = absurd (none-ne-some f e)
push-of (check_reorg b canonical) f e = absurd (none-ne-some f e)
push-of (check_finalized n) f e = absurd (none-ne-some f e)

owner-found : (cs : List Call) (f : Frame) → ((g : Frame) → Memᴰ (push g) cs → g.hash ≡ f.hash → g.from ≡ f.from) →
    Memᴰ (push f) cs → owner_in cs f.hash ≡ sender f.from
unfolding owner_in owner_by push_of
owner-found [] f one m = absurd (Memᴰ.not-nil m)
owner-found (c ∷ cs) f one m = go (push_of c) refl (Memᴰ.cases_cons m) (owner-found cs f (λ g n. one g (Memᴰ.tail n)))
  where
    Found : List Call → Type 0
    Found ds = owner_in ds f.hash ≡ sender f.from

    go : (o : Option Frame) → push_of c ≡ o → (push f ≡ c) ⊎ Memᴰ (push f) cs → (Memᴰ (push f) cs → Found cs) →
        owner_by o f.hash (owner_in cs f.hash) ≡ sender f.from
    go None e (inl q) ih = absurd (none-ne-some f (sym e ∙ ap push_of (sym q)))
    go None e (inr n) ih = ih n
    go (Some g) e where-f ih = pick (eq_bytes g.hash f.hash) refl where-f
      where
        pick : (b : Bool) → eq_bytes g.hash f.hash ≡ b → (push f ≡ c) ⊎ Memᴰ (push f) cs → cond b (sender g.from) (owner_in cs f.hash) ≡ sender f.from
        pick true p w = ap sender (one g (Memᴰ.head (sym (push-of c g e))) (eq_bytes-true g.hash f.hash p))
        pick false p (inl q) = clash (eq_bytes-of g.hash f.hash (ap (λ (x : Frame). x.hash) (some-injective g f (sym e ∙ ap push_of (sym q))))) p
        pick false p (inr n) = ih n

pub owned-call : (cs : List Call) → OneSender cs → (c : Call) → Memᴰ c cs → OwnedCall (owner_in cs) c
owned-call cs one c m f e = owner-found cs f (λ g n q. one g f n (Memᴰ.cast (sym e) m) q) (Memᴰ.cast (sym e) m)

pub mem-pushes : (e : Entry) (es : List Entry) → Memᴰ e es → Memᴰ (push e.frame) (pushes_of es)
unfolding pushes_of
mem-pushes e es (Memᴰ.head q) = Memᴰ.head (ap (λ (x : Entry). push x.frame) q)
mem-pushes e es (Memᴰ.tail {xs = xs} m) = Memᴰ.tail (mem-pushes e xs m)

-- ---- two orders have the same owners

orders-sym : {A : Type 0} (key_of : A → Option Key) {xs ys : List A} → TwoOrders key_of xs ys → TwoOrders key_of ys xs
orders-sym key_of (rest h) = rest (record { keyed = (h.keyed.1, h.keyed.0); same = λ k. sym (h.same k) })
orders-sym key_of (cut h e more) = cut (record { keyed = (h.keyed.1, h.keyed.0); same = λ k. sym (h.same k) }) e (orders-sym key_of more)

Pushed : List Call → Bytes → Type 0
Pushed cs h = (f : Frame) × Memᴰ (push f) cs × (f.hash ≡ h)

pushed-or : (cs : List Call) (h : Bytes) → Pushed cs h ⊎ (owner_in cs h ≡ alone h)
unfolding owner_in owner_by Pushed
pushed-or [] h = inr refl
pushed-or (c ∷ cs) h = go (push_of c) refl (pushed-or cs h)
  where
    later : (k : Key) → k ≡ owner_in cs h → Pushed cs h ⊎ (owner_in cs h ≡ alone h) → Pushed (c ∷ cs) h ⊎ (k ≡ alone h)
    later k e (inl p) = inl (p.0, Memᴰ.tail p.1, p.2)
    later k e (inr q) = inr (e ∙ q)

    go : (o : Option Frame) → push_of c ≡ o → Pushed cs h ⊎ (owner_in cs h ≡ alone h) → Pushed (c ∷ cs) h ⊎ (owner_by o h (owner_in cs h) ≡ alone h)
    go None e r = later (owner_in cs h) refl r
    go (Some f) e r = pick (eq_bytes f.hash h) refl
      where
        pick : (b : Bool) → eq_bytes f.hash h ≡ b → Pushed (c ∷ cs) h ⊎ (cond b (sender f.from) (owner_in cs h) ≡ alone h)
        pick true p = inl (f, Memᴰ.head (sym (push-of c f e)), eq_bytes-true f.hash h p)
        pick false p = later (owner_in cs h) refl r

pub same-owner : (xs ys : List Call) → TwoOrders (key_by (owner_in xs)) xs ys → OneSender xs → (h : Bytes) → owner_in xs h ≡ owner_in ys h
unfolding Pushed
same-owner xs ys t one h = go (pushed-or xs h) (pushed-or ys h)
  where
    back : (c : Call) → Memᴰ c ys → Memᴰ c xs
    back c m = orders-mem (key_by (owner_in xs)) t c m

    forth : (c : Call) → Memᴰ c xs → Memᴰ c ys
    forth c m = orders-mem (key_by (owner_in xs)) (orders-sym (key_by (owner_in xs)) t) c m

    both : (f : Frame) → Memᴰ (push f) xs → f.hash ≡ h → owner_in xs h ≡ owner_in ys h
    both f m q =
        ap (owner_in xs) (sym q) ∙ owner-found xs f (λ g n. one g f n m) m
        ∙ sym (owner-found ys f (λ g n. one g f (back (push g) n) m) (forth (push f) m)) ∙ ap (owner_in ys) q

    go : Pushed xs h ⊎ (owner_in xs h ≡ alone h) → Pushed ys h ⊎ (owner_in ys h ≡ alone h) → owner_in xs h ≡ owner_in ys h
    go (inl p) r = both p.0 p.1 p.2
    go (inr p) (inl r) = both r.0 (back (push r.0) r.1) r.2
    go (inr p) (inr r) = p ∙ sym r
