-- What entering the tentative state makes of the held part, from what its search has found.
use Prim.Native.Nat.{ℕ, zero, suc, ◌<◌}
use native.Mathlib.Omega.{arith}
use mathlib.Core.Path.{◌≡◌, refl, sym, ap, ◌∙◌}
use mathlib.Core.Bool.{true}
use mathlib.Core.List.{List, [], ◌∷◌, ◌++◌, map}
use Rattle.std.specs.Prelude.{Option, None, Some}
use Rattle.std.specs.Option.{option_map}
use lib.ListN.{length, take, drop, get_or, set, length-take, length-map}
use lib.Seq.{take-set-lt, get_or-take}
use Rattle.lists.specs.Bytes.{Bytes}
use Rattle.lists.specs.Search.{first_at}
use Rattle.lists.proofs.Options.{some-injective, none-ne-some, some-ne-none}
use Rattle.store_rules.specs.Frames.{Consumed, Entry}
use Rattle.store_rules.specs.Lookup.{enters, Found, whose_found, lookup, is_found, enter_with, enter_head, enter_first}
use Rattle.store_rules.specs.Searching.{found_first}
use Rattle.store_rules.specs.Store.{long, drop_guard, entered, effect, input_refusal, room_refusal, refusal, unless, step}
use Rattle.store_rules.specs.Answers.{says_entered, said, numbers_of, bytes_of}
use Rattle.store_rules.specs.View.{entry_of, entries_seen, labels_of, live_of, guards_seen, Bodies}
use Rattle.store_rules.proofs.Lookups.{enter-none, first-within}
use Rattle.gap_quarantine.specs.Promises.{EntersAlways}
use Rattle.store_rules.specs.declared.Entry as coded
use Rattle.store_rules.specs.declared.Held.{Held}
use Rattle.store_rules.specs.declared.lookup.Found as shown

-- ---- what was found

-- as it is shown, where it stands at n
abbrev shown_at : ℕ → Found → shown.Found
shown_at n f = record { at = n; whose = f.whose }

unfound : (n : ℕ) (o : Option Found) → None ≡ option_map (shown_at n) o → o ≡ None
unfound n None e = refl
unfound n (Some f) e = absurd (none-ne-some _ e)

found : (n : ℕ) (o : Option Found) (r : shown.Found) → Some r ≡ option_map (shown_at n) o → (f : Found) × (o ≡ Some f) × (r ≡ shown_at n f)
found n None r e = absurd (some-ne-none _ e)
found n (Some f) r e = (f, refl, some-injective _ _ e)

-- the entry at k is entered
enter-at : (c : Consumed) (l : List coded.Entry) (k : ℕ) (d f : coded.Entry) → k < length l → entry_of f ≡ enter_with c (entry_of (get_or l k d)) →
    map entry_of (set l k f) ≡ take k (map entry_of l) ++ enter_head c (drop k (map entry_of l))
unfolding enter_head
enter-at c [] k d f b e = absurd (omega arith)
enter-at c (x ∷ xs) zero d f b e = ap {B = List Entry} (λ y. y ∷ map entry_of xs) e
enter-at c (x ∷ xs) (suc k) d f b e = ap {B = List Entry} (λ l. entry_of x ∷ l) (enter-at c xs k d f (omega arith) e)

-- ---- the call

module _ (q : Held) (h : Bytes) (c : Consumed) where
  pub absent : None ≡ found_first (enters h) (entries_seen q) → EntersAlways q h c (record { whose = None; store = q })
  unfolding step refusal input_refusal room_refusal unless effect said numbers_of bytes_of is_found
  absent t bodies =
      let none : lookup (enters h) (entries_seen q) ≡ None = unfound _ _ t in
      record {
        store = rw (enter-none h c (entries_seen q) none, none);
        answer = rw none;
        numbers_after = refl;
        bytes_after = refl;
        kept = λ m e. refl;
      }

  module _ (r : shown.Found) (is : Some r ≡ found_first (enters h) (entries_seen q)) where
    abbrev first : ℕ
    first = first_at (enters h) (entries_seen q)

    there : (f : Found) × (lookup (enters h) (entries_seen q) ≡ Some f) × (r ≡ shown_at first f)
    there = found first (lookup (enters h) (entries_seen q)) r is

    looked : is_found (lookup (enters h) (entries_seen q)) ≡ true
    unfolding is_found
    looked = rw there.1

    at-within : r.at < length (entries_seen q)
    at-within =
        let at : r.at ≡ first = ap (λ (x : shown.Found). x.at) there.2 in
        omega (arith, first-within (enters h) (entries_seen q) looked, at)

    pub present : (d f : coded.Entry) (labels : Bytes) → length q.entries ≡ 64 → entry_of f ≡ enter_with c (entry_of (get_or q.entries r.at d)) →
        ((bodies : Bodies) → live_of (take q.guards (labels_of labels)) bodies ≡ drop_guard h (guards_seen bodies q)) →
        EntersAlways q h c (record { whose = Some r.whose; store = record { entries = set q.entries r.at f; len = q.len; labels = labels; guards = q.guards } })
    unfolding step refusal input_refusal room_refusal unless effect said numbers_of bytes_of enter_first
    present d f labels whole made drops bodies =
        let es : List coded.Entry = take q.len q.entries in
        let size : length (entries_seen q) ≡ length es = length-map es entry_of in
        let fits : r.at < length es = omega (arith, at-within, size) in
        let within : r.at < q.len = omega (arith, fits, length-take q.len q.entries) in
        let part : take q.len (set q.entries r.at f) ≡ set es r.at f = take-set-lt q.len q.entries r.at f within in
        let same : entry_of f ≡ enter_with c (entry_of (get_or es r.at d)) = rw (get_or-take q.len q.entries r.at d within) made in
        let at : r.at ≡ first = ap (λ (x : shown.Found). x.at) there.2 in
        record {
          store = rw (part, drops bodies, enter-at c es r.at d f fits same, at, looked);
          answer = ap (λ (x : shown.Found). says_entered true x.whose.sender x.whose.place) there.2 ∙ ap (λ (o : Option Found). said long (entered (whose_found o))) (sym there.1);
          numbers_after = refl;
          bytes_after = refl;
          kept = λ m e. cc;
        }
