-- The guards that stand: what is found, counted, dropped, and put in its place or behind them.
use Prim.Native.Nat.{ℕ, zero, suc, ◌≤◌, ◌<◌}
use native.Mathlib.Omega.{arith}
use mathlib.Core.Path.{◌≡◌, refl, ap, ◌∙◌}
use mathlib.Core.Bool.{Bool, true, false, ◌&&◌, not, cond}
use Rattle.std.specs.Prelude.{None, Some}
use mathlib.Core.List.{List, [], ◌∷◌, ◌++◌, map}
use lib.ListN.{length, take, set}
use Rattle.lists.specs.Bytes.{Bytes, eq_bytes}
use Rattle.lists.specs.Lists.{keep, is_empty}
use Rattle.lists.proofs.ByteOrder.{eq_bytes-true}
use Rattle.store_rules.specs.Frames.{Guard}
use Rattle.store_rules.specs.Store.{guard_of, drop_guard, put_guard}
use Rattle.store_rules.specs.View.{GuardLabel, Bodies, guard_seen, live_of}
use Rattle.guards.specs.Labels.{label_at}
use Rattle.guards.specs.Moving.{live_count}

-- the bodies behind the first
abbrev rest : Bodies → Bodies
rest bodies k = bodies (suc k)

-- ---- what is found

module _ (h : Bytes) where
  pub none_found : (ls : List GuardLabel) (bodies : Bodies) → length ls ≤ label_at h ls → guard_of h (live_of ls bodies) ≡ None
  unfolding guard_of live_of label_at
  none_found [] bodies b = refl
  none_found (l ∷ ls) bodies b = go l.live (eq_bytes l.hash h) refl b (none_found ls (rest bodies))
    where
      go : (a t : Bool) → eq_bytes l.hash h ≡ t → suc (length ls) ≤ cond (a && t) zero (suc (label_at h ls)) →
          (length ls ≤ label_at h ls → guard_of h (live_of ls (rest bodies)) ≡ None) →
          guard_of h (cond a (guard_seen l.hash (bodies 0) ∷ live_of ls (rest bodies)) (live_of ls (rest bodies))) ≡ None
      go true true e b ih = absurd (omega arith)
      go true false e b ih = rw e (ih (omega arith))
      go false t e b ih = ih (omega arith)

  -- the guard that is found has the hash that is looked for
  pub one_found : (ls : List GuardLabel) (bodies : Bodies) → label_at h ls < length ls → guard_of h (live_of ls bodies) ≡ Some (guard_seen h (bodies (label_at h ls)))
  unfolding guard_of live_of label_at
  one_found [] bodies b = absurd (omega arith)
  one_found (l ∷ ls) bodies b = go l.live (eq_bytes l.hash h) refl b (one_found ls (rest bodies))
    where
      go : (a t : Bool) → eq_bytes l.hash h ≡ t → cond (a && t) zero (suc (label_at h ls)) < suc (length ls) →
          (label_at h ls < length ls → guard_of h (live_of ls (rest bodies)) ≡ Some (guard_seen h (bodies (suc (label_at h ls))))) →
          guard_of h (cond a (guard_seen l.hash (bodies 0) ∷ live_of ls (rest bodies)) (live_of ls (rest bodies)))
          ≡ Some (guard_seen h (bodies (cond (a && t) zero (suc (label_at h ls)))))
      go true true e b ih = rw e (ap (λ x. Some (guard_seen x (bodies 0))) (eq_bytes-true l.hash h e))
      go true false e b ih = rw e (ih (omega arith))
      go false t e b ih = ih (omega arith)

-- ---- what is counted

pub live-length : (ls : List GuardLabel) (bodies : Bodies) → length (live_of ls bodies) ≡ live_count ls
unfolding live_of live_count
live-length [] bodies = refl
live-length (l ∷ ls) bodies = go l.live (live-length ls (rest bodies))
  where
    go : (a : Bool) → length (live_of ls (rest bodies)) ≡ live_count ls →
        length (cond a (guard_seen l.hash (bodies 0) ∷ live_of ls (rest bodies)) (live_of ls (rest bodies))) ≡ cond a (suc (live_count ls)) (live_count ls)
    go true e = ap suc e
    go false e = e

-- ---- what is dropped

-- the label once the guards of a hash stand no more
abbrev pub dropped : Bytes → GuardLabel → GuardLabel
dropped h l = record { hash = l.hash; live = l.live && not (eq_bytes l.hash h) }

pub dropped-live : (h : Bytes) (ls : List GuardLabel) (bodies : Bodies) → live_of (map (dropped h) ls) bodies ≡ drop_guard h (live_of ls bodies)
unfolding drop_guard keep live_of
dropped-live h [] bodies = refl
dropped-live h (l ∷ ls) bodies = go l.live (eq_bytes l.hash h) refl (dropped-live h ls (rest bodies))
  where
    go : (a t : Bool) → eq_bytes l.hash h ≡ t → live_of (map (dropped h) ls) (rest bodies) ≡ drop_guard h (live_of ls (rest bodies)) →
        cond (a && not t) (guard_seen l.hash (bodies 0) ∷ live_of (map (dropped h) ls) (rest bodies)) (live_of (map (dropped h) ls) (rest bodies))
        ≡ drop_guard h (cond a (guard_seen l.hash (bodies 0) ∷ live_of ls (rest bodies)) (live_of ls (rest bodies)))
    go true true e ih = rw e ih
    go true false e ih = rw e (ap {B = List Guard} (λ r. guard_seen l.hash (bodies 0) ∷ r) ih)
    go false t e ih = ih

-- ---- what is put

module _ (g : Guard) where
  -- the guards of its hash
  abbrev ours : List Guard → List Guard
  ours l = keep (λ x. eq_bytes x.hash g.hash) l

  -- none stands: it comes last
  pub none-ours : (ls : List GuardLabel) (bodies : Bodies) → length ls ≤ label_at g.hash ls →
      (put_guard g (live_of ls bodies) ≡ live_of ls bodies ++ (g ∷ [])) × (is_empty (ours (live_of ls bodies)) ≡ true)
  unfolding label_at put_guard keep is_empty live_of
  none-ours [] bodies b = (refl, refl)
  none-ours (l ∷ ls) bodies b = go l.live (eq_bytes l.hash g.hash) refl b (none-ours ls (rest bodies))
    where
      go : (a t : Bool) → eq_bytes l.hash g.hash ≡ t → suc (length ls) ≤ cond (a && t) zero (suc (label_at g.hash ls)) →
          (length ls ≤ label_at g.hash ls → (put_guard g (live_of ls (rest bodies)) ≡ live_of ls (rest bodies) ++ (g ∷ [])) × (is_empty (ours (live_of ls (rest bodies))) ≡ true)) →
          (put_guard g (cond a (guard_seen l.hash (bodies 0) ∷ live_of ls (rest bodies)) (live_of ls (rest bodies)))
          ≡ cond a (guard_seen l.hash (bodies 0) ∷ live_of ls (rest bodies)) (live_of ls (rest bodies)) ++ (g ∷ []))
          × (is_empty (ours (cond a (guard_seen l.hash (bodies 0) ∷ live_of ls (rest bodies)) (live_of ls (rest bodies)))) ≡ true)
      go true true e b ih = absurd (omega arith)
      go true false e b ih = let r = ih (omega arith) in (rw e (ap {B = List Guard} (λ l'. guard_seen l.hash (bodies 0) ∷ l') r.0), rw e r.1)
      go false t e b ih = ih (omega arith)

  -- one stands: its body is replaced
  pub first-ours : (ls : List GuardLabel) (bodies bodies' : Bodies) → label_at g.hash ls < length ls → guard_seen g.hash (bodies' (label_at g.hash ls)) ≡ g →
      ((j : ℕ) → (j ≡ label_at g.hash ls → ⊥) → bodies' j ≡ bodies j) →
      (live_of ls bodies' ≡ put_guard g (live_of ls bodies)) × (is_empty (ours (live_of ls bodies)) ≡ false)
  unfolding label_at put_guard keep is_empty live_of
  first-ours [] bodies bodies' b p q = absurd (omega arith)
  first-ours (l ∷ ls) bodies bodies' b p q = go l.live (eq_bytes l.hash g.hash) refl b p q (first-ours ls (rest bodies) (rest bodies'))
    where
      go : (a t : Bool) → eq_bytes l.hash g.hash ≡ t → cond (a && t) zero (suc (label_at g.hash ls)) < suc (length ls) →
          guard_seen g.hash (bodies' (cond (a && t) zero (suc (label_at g.hash ls)))) ≡ g →
          ((j : ℕ) → (j ≡ cond (a && t) zero (suc (label_at g.hash ls)) → ⊥) → bodies' j ≡ bodies j) →
          (label_at g.hash ls < length ls → guard_seen g.hash (bodies' (suc (label_at g.hash ls))) ≡ g →
          ((j : ℕ) → (j ≡ label_at g.hash ls → ⊥) → bodies' (suc j) ≡ bodies (suc j)) →
          (live_of ls (rest bodies') ≡ put_guard g (live_of ls (rest bodies))) × (is_empty (ours (live_of ls (rest bodies))) ≡ false)) →
          (cond a (guard_seen l.hash (bodies' 0) ∷ live_of ls (rest bodies')) (live_of ls (rest bodies'))
          ≡ put_guard g (cond a (guard_seen l.hash (bodies 0) ∷ live_of ls (rest bodies)) (live_of ls (rest bodies))))
          × (is_empty (ours (cond a (guard_seen l.hash (bodies 0) ∷ live_of ls (rest bodies)) (live_of ls (rest bodies)))) ≡ false)
      go true true t b p q ih =
          let new : guard_seen l.hash (bodies' 0) ≡ g = (λ s. guard_seen (eq_bytes-true l.hash g.hash t s) (bodies' 0)) ∙ p in
          (rw t (λ s. new s ∷ live_of ls (λ k. q (suc k) (λ z. omega arith) s)), rw t)
      go true false t b p q ih =
          let r = ih (omega arith) p (λ j n. q (suc j) (λ z. n (omega arith))) in
          (rw t (λ s. guard_seen l.hash (q 0 (λ z. omega arith) s) ∷ r.0 s), rw t r.1)
      go false t u b p q ih = ih (omega arith) p (λ j n. q (suc j) (λ z. n (omega arith)))

-- a guard behind the others
pub live_more : (n : ℕ) (ls : List GuardLabel) (bodies bodies' : Bodies) (h : Bytes) → n < length ls → ((j : ℕ) → j < n → bodies' j ≡ bodies j) →
    live_of (take (suc n) (set ls n (record { hash = h; live = true }))) bodies' ≡ live_of (take n ls) bodies ++ (guard_seen h (bodies' n) ∷ [])
unfolding live_of
live_more n [] bodies bodies' h b q = absurd (omega arith)
live_more zero (l ∷ ls) bodies bodies' h b q = refl
live_more (suc n) (l ∷ ls) bodies bodies' h b q = go l.live (live_more n ls (rest bodies) (rest bodies') h (omega arith) (λ j m. q (suc j) (omega arith)))
  where
    go : (a : Bool) {more : List Guard} → more ≡ live_of (take n ls) (rest bodies) ++ (guard_seen h (bodies' (suc n)) ∷ []) →
        cond a (guard_seen l.hash (bodies' 0) ∷ more) more
        ≡ cond a (guard_seen l.hash (bodies 0) ∷ live_of (take n ls) (rest bodies)) (live_of (take n ls) (rest bodies)) ++ (guard_seen h (bodies' (suc n)) ∷ [])
    go true e = λ s. guard_seen l.hash (q 0 (omega arith) s) ∷ e s
    go false e = e
