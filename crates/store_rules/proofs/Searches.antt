-- The lookup over the code's entries: the first that passes a test, and how many of its sender's stand before it.
use Prim.Native.Nat.{ℕ, zero, suc, ◌+◌, ◌≤◌, ◌<◌}
use native.Mathlib.Omega.{arith}
use mathlib.Core.Path.{◌≡◌, refl, sym, ap, ◌∙◌}
use mathlib.Core.Bool.{Bool, true, false, not, cond}
use mathlib.Core.List.{List, [], ◌∷◌, map}
use Rattle.std.specs.Prelude.{Option, None, Some}
use Rattle.std.specs.Option.{option_map}
use Rattle.std.specs.List.{count_by, filter, position, position_or_len}
use Rattle.std.proofs.lemmas.List.Sums.{length-filter}
use Rattle.std.proofs.lemmas.List.{take-map, drop-map}
use lib.ListN.{length, take, drop, get_or, length-map, drop_of_length-le}
use lib.Seq.{drop-cons}
use lib.Dec.{ltb}
use borrow.Author.Tests.{ltb-true, ltb-false}
use Rattle.lists.proofs.Options.{some-injective, none-ne-some, some-ne-none}
use Rattle.lists.specs.Lists.{keep}
use Rattle.lists.specs.Search.{first_at}
use Rattle.store_rules.specs.Frames.{Entry}
use Rattle.store_rules.specs.Lookup.{Found, entries_of, found_behind, first_of, lookup}
use Rattle.store_rules.specs.View.{entry_of}
use Rattle.store_rules.specs.Searching.{found_first}
use Rattle.store_rules.specs.declared.Entry as coded
use Rattle.store_rules.specs.declared.lookup.Found as shown

-- ---- how many pass a test

-- as many of the code's entries pass as of those seen
module _ (p : Entry → Bool) where
  kept : (es : List coded.Entry) → length (filter (λ e. p (entry_of e)) es) ≡ length (keep p (map entry_of es))
  unfolding keep
  kept [] = refl
  kept (e ∷ es) = go (p (entry_of e)) (kept es)
    where
      go : (b : Bool) → length (filter (λ x. p (entry_of x)) es) ≡ length (keep p (map entry_of es)) →
          length (cond b (e ∷ filter (λ x. p (entry_of x)) es) (filter (λ x. p (entry_of x)) es)) ≡ length (cond b (entry_of e ∷ keep p (map entry_of es)) (keep p (map entry_of es)))
      go true ih = ap suc ih
      go false ih = ih

  pub counted : (es : List coded.Entry) → count_by (λ e. p (entry_of e)) es ≡ length (keep p (map entry_of es))
  counted es = sym (length-filter (λ e. p (entry_of e)) es) ∙ kept es

  -- ---- where the first that passes stands

  first-place : (es : List coded.Entry) → position_or_len (λ e. p (entry_of e)) es ≡ first_at p (map entry_of es)
  unfolding first_at
  first-place [] = refl
  first-place (e ∷ es) = go (p (entry_of e)) (first-place es)
    where
      go : (b : Bool) → position_or_len (λ x. p (entry_of x)) es ≡ first_at p (map entry_of es) →
          cond (not b) (1 + position_or_len (λ x. p (entry_of x)) es) 0 ≡ cond b zero (suc (first_at p (map entry_of es)))
      go true ih = refl
      go false ih = omega (arith, ih)

  pub found-none : (es : List coded.Entry) → None ≡ position (λ e. p (entry_of e)) es → None ≡ found_first p (map entry_of es)
  unfolding lookup first_of
  found-none es h = go (ltb (position_or_len (λ e. p (entry_of e)) es) (length es)) refl h
    where
      go : (b : Bool) → ltb (position_or_len (λ e. p (entry_of e)) es) (length es) ≡ b → None ≡ cond b (Some (position_or_len (λ e. p (entry_of e)) es)) None → None ≡ found_first p (map entry_of es)
      go true t e = absurd (none-ne-some _ e)
      go false t e =
          let past : length (map entry_of es) ≤ first_at p (map entry_of es) = simp length-map (omega (arith, ltb-false _ _ t, first-place es)) in
          rw (drop_of_length-le (map entry_of es) past)

  pub found-some : (es : List coded.Entry) (i : ℕ) (d : coded.Entry) → Some i ≡ position (λ e. p (entry_of e)) es →
      Some (record { at = i; whose = record { sender = (get_or es i d).frame.from; place = length (entries_of (get_or es i d).frame.from (map entry_of (take i es))) } }) ≡ found_first p (map entry_of es)
  unfolding lookup first_of found_behind
  found-some es i d h = go (ltb (position_or_len (λ e. p (entry_of e)) es) (length es)) refl h
    where
      go : (b : Bool) → ltb (position_or_len (λ e. p (entry_of e)) es) (length es) ≡ b → Some i ≡ cond b (Some (position_or_len (λ e. p (entry_of e)) es)) None →
          Some (record { at = i; whose = record { sender = (get_or es i d).frame.from; place = length (entries_of (get_or es i d).frame.from (map entry_of (take i es))) } }) ≡ found_first p (map entry_of es)
      go false t e = absurd (some-ne-none _ e)
      go true t e =
          let at : first_at p (map entry_of es) ≡ i = sym (first-place es) ∙ sym (some-injective _ _ e) in
          let within : i < length es = omega (arith, ltb-true _ _ t, first-place es, at) in
          rw (at, take-map entry_of i es, drop-map entry_of i es, drop-cons es i d)

-- ---- what was found

-- the entry found, in the array
found-there : (before : List Entry) (es : List coded.Entry) (k : ℕ) (d : coded.Entry) (f : Found) → first_of before (drop k (map entry_of es)) ≡ Some f → entry_of (get_or es k d) ≡ f.entry
unfolding first_of found_behind
found-there before [] zero d f e = absurd (none-ne-some f e)
found-there before [] (suc k) d f e = absurd (none-ne-some f e)
found-there before (x ∷ es) zero d f e = ap (λ (g : Found). g.entry) (some-injective _ f e)
found-there before (x ∷ es) (suc k) d f e = found-there before es k d f e

module _ (p : Entry → Bool) (es : List coded.Entry) where
  pub looked-up-none : found_first p (map entry_of es) ≡ None → lookup p (map entry_of es) ≡ None
  looked-up-none e = go (lookup p (map entry_of es)) e
    where
      go : (o : Option Found) → option_map {U = shown.Found} (λ f. record { at = first_at p (map entry_of es); whose = f.whose }) o ≡ None → o ≡ None
      go None h = refl
      go (Some f) h = absurd (some-ne-none _ h)

  pub looked-up : (f : shown.Found) (d : coded.Entry) → found_first p (map entry_of es) ≡ Some f →
      lookup p (map entry_of es) ≡ Some (record { entry = entry_of (get_or es f.at d); whose = f.whose })
  unfolding lookup
  looked-up f d e = go (lookup p (map entry_of es)) refl e
    where
      go : (o : Option Found) → lookup p (map entry_of es) ≡ o → option_map (λ g. record { at = first_at p (map entry_of es); whose = g.whose }) o ≡ Some f →
          o ≡ Some (record { entry = entry_of (get_or es f.at d); whose = f.whose })
      go None l h = absurd (none-ne-some _ h)
      go (Some g) l h = rw (← some-injective _ f h, found-there (take (first_at p (map entry_of es)) (map entry_of es)) es (first_at p (map entry_of es)) d g l) refl

  pub found-at : (f : shown.Found) → found_first p (map entry_of es) ≡ Some f → f.at ≡ first_at p (map entry_of es)
  found-at f e = go (lookup p (map entry_of es)) e
    where
      go : (o : Option Found) → option_map (λ g. record { at = first_at p (map entry_of es); whose = g.whose }) o ≡ Some f → f.at ≡ first_at p (map entry_of es)
      go None h = absurd (none-ne-some _ h)
      go (Some g) h = sym (ap (λ (x : shown.Found). x.at) (some-injective _ _ h))
