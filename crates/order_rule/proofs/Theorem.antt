-- The rule of two orders on an ideal store, and on any whose runs are ideal (`in-any-order`).
use Prim.Native.Nat.{ℕ}
use mathlib.Core.Path.{◌≡◌, refl, sym, ap, ◌∙◌, subst, subst₂}
use mathlib.Core.List.Memᴰ
use mathlib.Core.List.{List, [], ◌∷◌, ◌++◌, Memᴰ}
use Rattle.std.specs.Prelude.{Option, None, Some}
use Rattle.lists.specs.Bytes.{Bytes}
use Rattle.store_rules.specs.Store.{Store, Sorted, Call, push, Request, Answer, effect, refusal, unless, step}
use Rattle.order_rule.specs.Orders.{Key, owner_in, pushes_of, key_by, SameCalls, TwoOrders, rest, cut, shown, InAnyOrder}
use Rattle.store_rules.specs.Frames.{Entry}
use Rattle.lists.proofs.Keeping.{each_append, each_of}
use Rattle.order_rule.proofs.Ideal.{Ideal, view, stepᵢ, runᵢ, transcriptᵢ, seen, effect-view, same_view}
use Rattle.order_rule.proofs.Invariant.{effect-sorted, OwnedFrame, OwnedCall, OwnedCalls, Good, step-good}
use Rattle.order_rule.proofs.Part.{KeyOf, KeyOfʰ, part, keyed-transcript, part-run, part-transcript}
use Rattle.order_rule.proofs.Whole.{whole}
use Rattle.order_rule.proofs.Owner.{orders-mem, owned-call, mem-pushes}

-- ---- lists of calls, one after another

run-append : (s : Ideal) (cs ds : List Call) → runᵢ s (cs ++ ds) ≡ runᵢ (runᵢ s cs) ds
unfolding runᵢ
run-append s [] ds = refl
run-append s (c ∷ cs) ds = run-append (stepᵢ s c).0 cs ds

transcript-append : (s : Ideal) (cs ds : List Call) → transcriptᵢ s (cs ++ ds) ≡ transcriptᵢ s cs ++ transcriptᵢ (runᵢ s cs) ds
unfolding transcriptᵢ runᵢ
transcript-append s [] ds = refl
transcript-append s (c ∷ cs) ds = ap (λ (l : List (Call × Answer)). (c, shown (stepᵢ s c).1) ∷ l) (transcript-append (stepᵢ s c).0 cs ds)

module _ (owner : Bytes → Key) where
  pub run-good : (s : Ideal) (cs : List Call) → OwnedCalls owner cs → Good owner s → Good owner (runᵢ s cs)
  unfolding runᵢ
  run-good s [] o h = h
  run-good s (c ∷ cs) o h = run-good (stepᵢ s c).0 cs o.1 (step-good owner s c o.0 h)

  -- ---- between two calls without a key

  module _ (s : Ideal) (h : Good owner s) {xs ys : List Call} (same : SameCalls (KeyOf owner) xs ys) (o : OwnedCalls owner xs) (p : OwnedCalls owner ys) where
    same-run : runᵢ s xs ≡ runᵢ s ys
    same-run =
        whole owner (runᵢ s xs) (runᵢ s ys) (run-good s xs o h).sorted (run-good s ys p h).sorted
        (λ k. sym (part-run owner k s h same.keyed.0 o) ∙ ap (runᵢ (part owner k s)) (same.same k) ∙ part-run owner k s h same.keyed.1 p)

    same-transcript : SameCalls (KeyOfʰ owner) (transcriptᵢ s xs) (transcriptᵢ s ys)
    same-transcript = record {
      keyed = (keyed-transcript owner s same.keyed.0, keyed-transcript owner s same.keyed.1);
      same = λ k. sym (part-transcript owner k s h same.keyed.0 o) ∙ ap (transcriptᵢ (part owner k s)) (same.same k) ∙ part-transcript owner k s h same.keyed.1 p;
    }

  -- ---- two orders, on an ideal store

  abbrev Agree : Ideal → List Call → List Call → Type 0
  Agree s xs ys = (runᵢ s xs ≡ runᵢ s ys) × TwoOrders (KeyOfʰ owner) (transcriptᵢ s xs) (transcriptᵢ s ys)

  -- one stretch, a call without a key, and what comes after it
  module _ (s : Ideal) (h : Good owner s) {ls rs : List Call} (same : SameCalls (KeyOf owner) ls rs) (o : OwnedCalls owner ls) (p : OwnedCalls owner rs)
      (g : Call) (e : KeyOf owner g ≡ None) (xs ys : List Call) (later : Agree (stepᵢ (runᵢ s ls) g).0 xs ys) where
    joined-run : runᵢ s (ls ++ g ∷ xs) ≡ runᵢ s (rs ++ g ∷ ys)
    unfolding runᵢ
    joined-run =
        run-append s ls (g ∷ xs) ∙ later.0 ∙ ap (λ (t : Ideal). runᵢ t (g ∷ ys)) (same-run s h same o p) ∙ sym (run-append s rs (g ∷ ys))

    joined-transcript : TwoOrders (KeyOfʰ owner) (transcriptᵢ s (ls ++ g ∷ xs)) (transcriptᵢ s (rs ++ g ∷ ys))
    unfolding transcriptᵢ
    joined-transcript =
        subst₂ (TwoOrders (KeyOfʰ owner)) (sym (transcript-append s ls (g ∷ xs)))
        (ap (λ (t : Ideal). transcriptᵢ s rs ++ transcriptᵢ t (g ∷ ys)) (same-run s h same o p) ∙ sym (transcript-append s rs (g ∷ ys)))
        (cut (same-transcript s h same o p) e later.1)

  two-orders : (s : Ideal) → Good owner s → {xs ys : List Call} → TwoOrders (KeyOf owner) xs ys → OwnedCalls owner xs → OwnedCalls owner ys → Agree s xs ys
  two-orders s h (rest same) o p = (same-run s h same o p, rest (same-transcript s h same o p))
  two-orders s h (cut {s = ls} {t = rs} {xs = xs} {ys = ys} {g = g} same e more) o p =
      let o' = each_append (OwnedCall owner) ls (g ∷ xs) o in
      let p' = each_append (OwnedCall owner) rs (g ∷ ys) p in
      let later = two-orders (stepᵢ (runᵢ s ls) g).0 (step-good owner (runᵢ s ls) g o'.1.0 (run-good s ls o'.0 h)) more o'.1.1 p'.1.1 in (
        joined-run s h same o'.0 p'.0 g e xs ys later,
        joined-transcript s h same o'.0 p'.0 g e xs ys later,
      )

-- ---- the rule, for lists of any kind whose runs with room are ideal runs of the calls that they are read as

abbrev pub IdealRuns : {A : Type 0} → Store → (List A → List Call) → (List A → Type 0) → (List A → Store) → (List A → List (Call × Answer)) → Type 0
IdealRuns {A} s read Room after tells =
    (xs : List A) → Room xs → (runᵢ (view s) (read xs) ≡ view (after xs)) × (transcriptᵢ (view s) (read xs) ≡ tells xs)

module _ {A : Type 0} (s : Store) (h : Sorted s.entries) (read : List A → List Call) (Room : List A → Type 0) (after : List A → Store) (tells : List A → List (Call × Answer)) where
  pub in-any-order : IdealRuns s read Room after tells → InAnyOrder (pushes_of s.entries) read Room after tells
  unfolding view
  in-any-order ideal xs ys t one m n =
      let r = two-orders owner (view s) (record { sorted = h; owned = each_of (λ e. OwnedFrame owner e.frame) s.entries entry-owned }) t
      (each_of (OwnedCall owner) (read xs) call-owned) (each_of (OwnedCall owner) (read ys) (λ c k. call-owned c (orders-mem (key_by owner) t c k))) in
      let x = ideal xs m in
      let y = ideal ys n in
      (same_view (after xs) (after ys) (sym x.0 ∙ r.0 ∙ y.0), subst₂ (TwoOrders (KeyOfʰ owner)) x.1 y.1 r.1)
    where
      held : List Call
      held = pushes_of s.entries

      owner : Bytes → Key
      owner = owner_in (held ++ read xs)

      call-owned : (c : Call) → Memᴰ c (read xs) → OwnedCall owner c
      call-owned c k = owned-call (held ++ read xs) one c (Memᴰ.append_right held k)

      entry-owned : (e : Entry) → Memᴰ e s.entries → OwnedFrame owner e.frame
      entry-owned e k = owned-call (held ++ read xs) one (push e.frame) (Memᴰ.append_left (read xs) (mem-pushes e s.entries k)) e.frame refl

-- the rule's premise on the store: every call keeps walk order
pub step-sorted : (s : Store) (q : Request) → Sorted s.entries → Sorted (step s q).0.entries
unfolding step unless view seen
step-sorted s q h = go (refusal s q)
  where
    go : (o : Option ℕ) → Sorted (unless o s (effect s q.call)).0.entries
    go (Some n) = h
    go None = subst Sorted (ap (λ (r : Ideal × Answer). r.0.entries) (effect-view s q.call)) (effect-sorted (view s) q.call h)
