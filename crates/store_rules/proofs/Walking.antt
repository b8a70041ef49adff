-- A walk over an array of entries that is changed in place: its outcome, from what stayed and was listed so far and the walk over
-- what is left.
use Prim.Native.Nat.{ℕ, ◌+◌, ◌≤◌, ◌<◌}
use native.Mathlib.Omega.{arith}
use mathlib.Core.Path.{◌≡◌, refl, sym, ap, ◌∙◌}
use mathlib.Core.Bool.{Bool, cond}
use Rattle.std.specs.Prelude.{Option, None, Some}
use mathlib.Core.List.{List, [], ◌∷◌, ◌++◌, append_assoc, append-nil, map}
use lib.ListN.{length, take, drop, get_or, set, length-set, length-append}
use Rattle.lists.proofs.Compacting.{front-more, rest-on, rest-kept, rest-none}
use Rattle.store_rules.specs.Frames.{Standing, Entry, Guard, Visit}
use Rattle.store_rules.specs.Store.{guard_of, drop_guard, after, Walked, walk}
use Rattle.store_rules.specs.View.{frame_of, entry_of}
use Rattle.store_rules.specs.declared.Entry as coded

-- ---- one step of a walk

module _ {A : Type 0} (rule : Option Guard → Entry → Visit A) (e : Entry) (es : List Entry) (gs gs' : List Guard) (b : Bool) (l : List A)
    (live : cond b (drop_guard e.frame.hash gs) gs ≡ gs') where
  walk-stays : (s : Standing) → rule (guard_of e.frame.hash gs) e ≡ record { stays = Some s; drops = b; lists = l } →
      walk rule (e ∷ es) gs
      ≡ record {
        entries = record { frame = e.frame; standing = s } ∷ (walk rule es gs').entries;
        guards = (walk rule es gs').guards;
        listed = l ++ (walk rule es gs').listed;
      }
  unfolding walk after
  walk-stays s h = rw (h, live)

  walk-leaves : rule (guard_of e.frame.hash gs) e ≡ record { stays = None; drops = b; lists = l } →
      walk rule (e ∷ es) gs ≡ record { entries = (walk rule es gs').entries; guards = (walk rule es gs').guards; listed = l ++ (walk rule es gs').listed }
  unfolding walk after
  walk-leaves h = rw (h, live)

-- ---- the loop's state

-- the entries that are left
abbrev pub rest_of : ℕ → List coded.Entry → ℕ → List Entry
rest_of len entries i = map entry_of (drop i (take len entries))

-- After `i` of `len` entries: `w` stayed, these guards are live, and this is listed. The walk's outcome is `end`.
pub record Walking {A : Type 0} (rule : Option Guard → Entry → Visit A) (len : ℕ) (end : Walked A) (entries : List coded.Entry) (live : List Guard) (told : List A) (w i : ℕ) : Type 0
  where
    pub within : i ≤ len
    pub behind : w ≤ i
    pub whole : length entries ≡ 64
    pub stayed : map entry_of (take w entries) ++ (walk rule (rest_of len entries i) live).entries ≡ end.entries
    pub guarded : (walk rule (rest_of len entries i) live).guards ≡ end.guards
    pub listed : told ++ (walk rule (rest_of len entries i) live).listed ≡ end.listed

-- what the whole walk comes to
pub record Ends {A : Type 0} (end : Walked A) (entries : List coded.Entry) (live : List Guard) (told : List A) (w : ℕ) : Type 0 where
  pub stayed : map entry_of (take w entries) ≡ end.entries
  pub guarded : live ≡ end.guards
  pub listed : told ≡ end.listed

module _ {A : Type 0} (rule : Option Guard → Entry → Visit A) (len : ℕ) where
  pub begins : (entries : List coded.Entry) (live : List Guard) → length entries ≡ 64 → Walking rule len (walk rule (map entry_of (take len entries)) live) entries live [] 0 0
  begins entries live a = record { within = omega arith; behind = omega arith; whole = a; stayed = refl; guarded = refl; listed = refl }

  module _ (end : Walked A) (entries : List coded.Entry) (live : List Guard) (told : List A) (w i : ℕ) (t : Walking rule len end entries live told w i) where
    pub ends : len ≤ i → Ends end entries live told w
    unfolding walk
    ends h =
        let none_left : rest_of len entries i ≡ [] = rest-none entry_of entries len i h in
        record {
          stayed = sym (append-nil _) ∙ rw none_left at t.stayed;
          guarded = rw none_left at t.guarded;
          listed = sym (append-nil _) ∙ rw none_left at t.listed;
        }

    -- an entry that is listed is one more of all that are
    pub one_of : (d : coded.Entry) (x : A) → i < len → len ≤ 64 → (rule (guard_of (get_or entries i d).frame.hash live) (entry_of (get_or entries i d))).lists ≡ x ∷ [] →
        length told < length end.listed
    unfolding walk
    one_of d x more fits h =
        let hl : len ≤ length entries = omega (arith, t.whole) in
        let all = rw (rest-on entry_of entries len i d more hl, h) at t.listed in
        let long = rw length-append at (ap length all) in
        omega (arith, long)

    module _ (d : coded.Entry) (more : i < len) (fits : len ≤ 64) (b : Bool) (l : List A) (live' : List Guard)
        (drops : cond b (drop_guard (get_or entries i d).frame.hash live) live ≡ live') where
      first : rest_of len entries i ≡ entry_of (get_or entries i d) ∷ rest_of len entries (i + 1)
      first =
          let hl : len ≤ length entries = omega (arith, t.whole) in
          rest-on entry_of entries len i d more hl

      -- the entry stays as `f`, in front
      pub stays : (s : Standing) (f : coded.Entry) → entry_of f ≡ record { frame = frame_of (get_or entries i d).frame; standing = s } →
          rule (guard_of (get_or entries i d).frame.hash live) (entry_of (get_or entries i d)) ≡ record { stays = Some s; drops = b; lists = l } →
          Walking rule len end (set entries w f) live' (told ++ l) (w + 1) (i + 1)
      stays s f same h =
          let hw : w < length entries = omega (arith, t.whole, t.behind) in
          let moved : rest_of len (set entries w f) (i + 1) ≡ rest_of len entries (i + 1) = rest-kept entry_of entries len w i f t.behind more in
          let step = walk-stays rule (entry_of (get_or entries i d)) (rest_of len entries (i + 1)) live live' b l drops s h in
          record {
            within = omega arith;
            behind = omega (arith, t.behind);
            whole = length-set entries w f ∙ t.whole;
            stayed = rw (moved, front-more entry_of entries w f hw, append_assoc, same) (rw (first, step) at t.stayed);
            guarded = rw moved (rw (first, step) at t.guarded);
            listed = rw (moved, append_assoc) (rw (first, step) at t.listed);
          }

      -- the entry leaves
      pub leaves : rule (guard_of (get_or entries i d).frame.hash live) (entry_of (get_or entries i d)) ≡ record { stays = None; drops = b; lists = l } →
          Walking rule len end entries live' (told ++ l) w (i + 1)
      leaves h =
          let step = walk-leaves rule (entry_of (get_or entries i d)) (rest_of len entries (i + 1)) live live' b l drops h in
          record {
            within = omega arith;
            behind = omega (arith, t.behind);
            whole = t.whole;
            stayed = rw (first, step) at t.stayed;
            guarded = rw (first, step) at t.guarded;
            listed = rw append_assoc (rw (first, step) at t.listed);
          }
