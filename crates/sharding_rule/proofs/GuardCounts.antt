-- Guards of different hashes, each of which another list has, are no more than that list's (`no_more`).
use Prim.Native.Nat.{suc, ◌≤◌}
use native.Mathlib.Omega.{arith}
use mathlib.Core.Path.{◌≡◌, refl, ap, ◌∙◌}
use mathlib.Core.Bool.{Bool, true, false, not, cond, false≢true}
use mathlib.Core.List.{List, [], ◌∷◌}
use Rattle.std.specs.Prelude.{Some}
use lib.ListN.{length}
use Rattle.lists.specs.Bytes.{Bytes, eq_bytes}
use Rattle.lists.specs.Lists.{keep, is_empty, Each}
use Rattle.lists.proofs.ByteOrder.{eq_bytes-refl}
use Rattle.lists.proofs.Keeping.{each_map, each_both}
use Rattle.lists.proofs.Elements.{length-keep}
use Rattle.store_rules.specs.Frames.{Guard}
use Rattle.store_rules.specs.Store.{guard_of, is_guarded, drop_guard}
use Rattle.order_rule.proofs.Ideal.{guard_of-drop}
use Rattle.store_laws.proofs.Reachable.{OneGuardAHash}

-- a list has a guard of this one's hash
abbrev pub GuardedIn : List Guard → Guard → Type 0
GuardedIn gs g = is_guarded (guard_of g.hash gs) ≡ true

drop-other : (h x : Bytes) → eq_bytes h x ≡ false → (gs : List Guard) → guard_of x (drop_guard h gs) ≡ guard_of x gs
drop-other h x n gs = guard_of-drop h gs x ∙ rw n

drop-shorter : (h : Bytes) (gs : List Guard) → is_guarded (guard_of h gs) ≡ true → suc (length (drop_guard h gs)) ≤ length gs
unfolding guard_of drop_guard keep is_guarded
drop-shorter h [] t = absurd (false≢true t)
drop-shorter h (g ∷ gs) t = go (eq_bytes g.hash h) t (drop-shorter h gs)
  where
    go : (b : Bool) → is_guarded (cond b (Some g) (guard_of h gs)) ≡ true → (is_guarded (guard_of h gs) ≡ true → suc (length (drop_guard h gs)) ≤ length gs) →
        suc (length (cond (not b) (g ∷ drop_guard h gs) (drop_guard h gs))) ≤ length (g ∷ gs)
    go true q ih = let l = length-keep (λ (x : Guard). not (eq_bytes x.hash h)) gs in omega arith
    go false q ih = let l = ih q in omega arith

-- guards of different hashes, each of which another list has, are no more than that list's
pub no_more : (gs hs : List Guard) → OneGuardAHash gs → Each (GuardedIn hs) gs → length gs ≤ length hs
no_more [] hs d t = omega arith
no_more (g ∷ gs) hs d t =
    let l = drop-shorter g.hash hs t.0 in
    let m = no_more gs (drop_guard g.hash hs) d.1
    (each_map _ (GuardedIn (drop_guard g.hash hs)) gs (λ x h. ap is_guarded (drop-other g.hash x.hash h.0 hs) ∙ h.1)
    (each_both (λ x. eq_bytes g.hash x.hash ≡ false) (GuardedIn hs) gs d.0 t.1)) in
    omega arith

pub found : (gs : List Guard) → Each (GuardedIn gs) gs
unfolding guard_of is_guarded
found [] = tt
found (g ∷ gs) = (rw (eq_bytes-refl g.hash), each_map (GuardedIn gs) (GuardedIn (g ∷ gs)) gs (λ x h. go x (eq_bytes g.hash x.hash) h) (found gs))
  where
    go : (x : Guard) (b : Bool) → GuardedIn gs x → is_guarded (cond b (Some g) (guard_of x.hash gs)) ≡ true
    go x true h = refl
    go x false h = h

pub none_of : (h : Bytes) (gs : List Guard) → is_empty (keep (λ g. eq_bytes g.hash h) gs) ≡ not (is_guarded (guard_of h gs))
unfolding guard_of is_guarded keep is_empty
none_of h [] = refl
none_of h (g ∷ gs) = go (eq_bytes g.hash h) (none_of h gs)
  where
    go : (b : Bool) → is_empty (keep (λ x. eq_bytes x.hash h) gs) ≡ not (is_guarded (guard_of h gs)) →
        is_empty (cond b (g ∷ keep (λ x. eq_bytes x.hash h) gs) (keep (λ x. eq_bytes x.hash h) gs)) ≡ not (is_guarded (cond b (Some g) (guard_of h gs)))
    go true ih = refl
    go false ih = ih
