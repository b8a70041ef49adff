-- Every store that calls and sweeps lead to from an empty one is in walk order and within its limits (`every-run`).
use Prim.Native.Nat.{ℕ, suc, ◌≤◌, ◌<◌}
use native.Mathlib.Omega.{arith}
use mathlib.Core.Path.{◌≡◌, refl, sym, ap, subst}
use mathlib.Core.Bool.{Bool, true, false, ◌&&◌, not, cond, true≢false}
use mathlib.Core.List.{List, [], ◌∷◌}
use Rattle.std.specs.Prelude.{Option, None, Some}
use Rattle.std.specs.Option.{option_or}
use Rattle.lists.proofs.Options.{none-ne-some}
use lib.Dec.{leb}
use lib.ListN.{length}
use borrow.Author.Tests.{leb-false}
use Rattle.lists.specs.Bytes.{Bytes, eq_bytes, le_bytes}
use Rattle.lists.specs.Lists.{keep, is_empty, Each, Pairwise}
use Rattle.lists.proofs.ByteOrder.{eq_bytes-true}
use Rattle.lists.proofs.Elements.{length-keep}
use Rattle.lists.proofs.Pairs.{pairwise-keep}
use Rattle.store_rules.specs.Frames.{Frame, Entry, Guard, Visit}
use Rattle.store_rules.specs.Lookup.{enters, lookup, is_found}
use Rattle.store_rules.specs.Store.{Store, Sorted, RowForm, empty, Call, push, poll, guard, enter_tentative, check_reorg, check_finalized, evict_sender, Request, Answer, guard_of, drop_guard, put_guard, walk, walked, insert, fresh, effect, when, wide_gap, no_room_for, input_refusal, room_refusal, refusal, unless, step}
use Rattle.order_rule.proofs.Ideal.{Ideal, view, seen, effectᵢ, effect-view}
use Rattle.order_rule.proofs.Invariant.{thinner-each, thinner-length, insert-each, Change, thinned, inserted, change}
use Rattle.order_rule.proofs.Theorem.{step-sorted}
use Rattle.order_rule.proofs.Sweeps.{items_keep}
use Rattle.store_laws.specs.Reachable.{EveryRun}

-- ---- entries

abbrev Narrow : List Entry → Type 0
Narrow = Each (λ e. wide_gap e.frame ≡ false)

record Entries (es : List Entry) : Type 0 where
  entries : length es ≤ 64
  narrow : Narrow es

pub insert-length : (e : Entry) (es : List Entry) → length (insert e es) ≡ suc (length es)
unfolding insert
insert-length e [] = refl
insert-length e (f ∷ fs) = go (le_bytes f.frame.from e.frame.from) (insert-length e fs)
  where
    go : (b : Bool) → length (insert e fs) ≡ suc (length fs) → length (cond b (f ∷ insert e fs) (e ∷ f ∷ fs)) ≡ suc (suc (length fs))
    go true h = ap suc h
    go false h = refl

-- a push that is not refused: the gap is narrow, and there is room
accepted : (s : Store) (f : Frame) (form : RowForm) (numbers bytes : ℕ) → option_or (input_refusal (push f)) (room_refusal s (push f) form numbers bytes) ≡ None →
    (wide_gap f ≡ false) × (length s.entries < 64)
unfolding input_refusal room_refusal when
accepted s f form numbers bytes = go (wide_gap f) (leb 64 (length s.entries)) refl
  where
    go : (w l : Bool) → leb 64 (length s.entries) ≡ l → option_or (when w 1) (when l 2) ≡ None → (w ≡ false) × (length s.entries < 64)
    go true l p e = absurd (none-ne-some 1 (sym e))
    go false true p e = absurd (none-ne-some 2 (sym e))
    go false false p e = (refl, leb-false 64 (length s.entries) p)

effect-entries : (s : Store) (q : Request) → refusal s q ≡ None → Entries s.entries → Entries (effect s q.call).0.entries
unfolding refusal fresh view seen
effect-entries s q e h = subst Entries (ap (λ (r : Ideal × Answer). r.0.entries) (effect-view s q.call)) (go (change (view s) q.call))
  where
    go : Change (view s) q.call → Entries (effectᵢ (view s) q.call).0.entries
    go (thinned t) = let l = thinner-length t in record { entries = omega arith; narrow = thinner-each (λ f. wide_gap f ≡ false) t h.narrow }
    go (inserted f c i) =
        let a = accepted s f q.form q.numbers q.bytes (subst (λ (x : Call). option_or (input_refusal x) (room_refusal s x q.form q.numbers q.bytes) ≡ None) c e) in
        subst Entries (sym i) (record { entries = rw (insert-length (fresh f) s.entries) a.1; narrow = insert-each _ (fresh f) s.entries a.0 h.narrow })

-- ---- guards

abbrev pub OneGuardAHash : List Guard → Type 0
OneGuardAHash = Pairwise (λ (g x : Guard). eq_bytes g.hash x.hash ≡ false)

record Guards (gs : List Guard) : Type 0 where
  guards : length gs ≤ 64
  one_guard : OneGuardAHash gs

drop-guards : (x : Bytes) (gs : List Guard) → Guards gs → Guards (drop_guard x gs)
unfolding drop_guard
drop-guards x gs h = record { guards = let l = length-keep (λ g. not (eq_bytes g.hash x)) gs in omega arith; one_guard = pairwise-keep _ _ gs h.one_guard }

drop-if : (b : Bool) (x : Bytes) (gs : List Guard) → Guards gs → Guards (cond b (drop_guard x gs) gs)
drop-if true x gs h = drop-guards x gs h
drop-if false x gs h = h

walk-guards : {A : Type 0} (rule : Option Guard → Entry → Visit A) (es : List Entry) (gs : List Guard) → Guards gs → Guards (walk rule es gs).guards
unfolding walk
walk-guards rule [] gs h = h
walk-guards rule (e ∷ es) gs h =
    let drops = (rule (guard_of e.frame.hash gs) e).drops in
    walk-guards rule es (cond drops (drop_guard e.frame.hash gs) gs) (drop-if drops e.frame.hash gs h)

module _ (g : Guard) where
  put-each : (P : Guard → Type 0) (gs : List Guard) → P g → Each P gs → Each P (put_guard g gs)
  unfolding put_guard
  put-each P [] p h = (p, tt)
  put-each P (x ∷ xs) p h = go (eq_bytes x.hash g.hash) (put-each P xs p h.1)
    where
      go : (b : Bool) → Each P (put_guard g xs) → Each P (cond b (g ∷ xs) (x ∷ put_guard g xs))
      go true t = (p, h.1)
      go false t = (h.0, t)

  put_one : (gs : List Guard) → OneGuardAHash gs → OneGuardAHash (put_guard g gs)
  unfolding put_guard
  put_one [] h = (tt, tt)
  put_one (x ∷ xs) h = go (eq_bytes x.hash g.hash) refl (put_one xs h.1)
    where
      go : (b : Bool) → eq_bytes x.hash g.hash ≡ b → OneGuardAHash (put_guard g xs) → OneGuardAHash (cond b (g ∷ xs) (x ∷ put_guard g xs))
      go true p t = (subst (λ (y : Bytes). Each (λ z. eq_bytes y z.hash ≡ false) xs) (eq_bytes-true x.hash g.hash p) h.0, h.1)
      go false p t = (put-each (λ z. eq_bytes x.hash z.hash ≡ false) xs p h.0, t)

  put-length : (gs : List Guard) → length (put_guard g gs) ≤ suc (length gs)
  unfolding put_guard
  put-length [] = omega arith
  put-length (x ∷ xs) = go (eq_bytes x.hash g.hash) (put-length xs)
    where
      go : (b : Bool) → length (put_guard g xs) ≤ suc (length xs) → length (cond b (g ∷ xs) (x ∷ put_guard g xs)) ≤ suc (suc (length xs))
      go true h = omega arith
      go false h = omega arith

  -- in the place of the old one
  put-replaces : (gs : List Guard) → is_empty (keep (λ x. eq_bytes x.hash g.hash) gs) ≡ false → length (put_guard g gs) ≡ length gs
  unfolding put_guard keep is_empty
  put-replaces [] e = absurd (true≢false e)
  put-replaces (x ∷ xs) e = go (eq_bytes x.hash g.hash) (put-replaces xs) e
    where
      go : (b : Bool) → (is_empty (keep (λ y. eq_bytes y.hash g.hash) xs) ≡ false → length (put_guard g xs) ≡ length xs) →
          is_empty (cond b (x ∷ keep (λ y. eq_bytes y.hash g.hash) xs) (keep (λ y. eq_bytes y.hash g.hash) xs)) ≡ false →
          length (cond b (g ∷ xs) (x ∷ put_guard g xs)) ≡ suc (length xs)
      go true ih e = refl
      go false ih e = ap suc (ih e)

  put-guards : (gs : List Guard) → no_room_for g.hash gs ≡ false → Guards gs → Guards (put_guard g gs)
  unfolding no_room_for
  put-guards gs e h = record { guards = go (leb 64 (length gs)) refl e; one_guard = put_one gs h.one_guard }
    where
      go : (b : Bool) → leb 64 (length gs) ≡ b → (b && is_empty (keep (λ x. eq_bytes x.hash g.hash) gs)) ≡ false → length (put_guard g gs) ≤ 64
      go true p q = let l = put-replaces gs q in omega arith
      go false p q = let l = put-length gs in let m = leb-false 64 (length gs) p in omega arith

has_room : (s : Store) (g : Guard) (form : RowForm) (numbers bytes : ℕ) → option_or (input_refusal (guard g)) (room_refusal s (guard g) form numbers bytes) ≡ None →
    no_room_for g.hash s.guards ≡ false
unfolding room_refusal when
has_room s g form numbers bytes = go (input_refusal (guard g)) (no_room_for g.hash s.guards)
  where
    go : (o : Option ℕ) (b : Bool) → option_or o (when b 8) ≡ None → b ≡ false
    go (Some n) b e = absurd (none-ne-some n (sym e))
    go None true e = absurd (none-ne-some 8 (sym e))
    go None false e = refl

effect-guards : (s : Store) (c : Call) (form : RowForm) (numbers bytes : ℕ) → option_or (input_refusal c) (room_refusal s c form numbers bytes) ≡ None →
    Guards s.guards → Guards (effect s c).0.guards
unfolding effect walked
effect-guards s (push f) form numbers bytes e h = h
effect-guards s (poll a head known content) form numbers bytes e h = walk-guards _ s.entries s.guards h
effect-guards s (guard g) form numbers bytes e h = put-guards g s.guards (has_room s g form numbers bytes e) h
effect-guards s (enter_tentative x c) form numbers bytes e h = drop-if (is_found (lookup (enters x) s.entries)) x s.guards h
effect-guards s (check_reorg b canonical) form numbers bytes e h = walk-guards _ s.entries s.guards h
effect-guards s (check_finalized n) form numbers bytes e h = walk-guards _ s.entries s.guards h
effect-guards s (evict_sender a) form numbers bytes e h = walk-guards _ s.entries s.guards h

-- ---- runs

record Limits (s : Store) : Type 0 where
  of_entries : Entries s.entries
  of_guards : Guards s.guards

step-limits : (s : Store) (q : Request) → Limits s → Limits (step s q).0
unfolding step unless refusal
step-limits s q h = go (refusal s q) refl
  where
    go : (o : Option ℕ) → refusal s q ≡ o → Limits (unless o s (effect s q.call)).0
    go (Some n) e = h
    go None e = record {
      of_entries = effect-entries s q e h.of_entries;
      of_guards = effect-guards s q.call q.form q.numbers q.bytes e h.of_guards;
    }

pub every-run : EveryRun
unfolding empty
every-run is =
    let start : Limits empty = record {
      of_entries = record { entries = omega arith; narrow = tt };
      of_guards = record { guards = omega arith; one_guard = tt };
    } in
    let r = items_keep (λ s. Sorted s.entries × Limits s) (λ s q h. (step-sorted s q h.0, step-limits s q h.1)) empty is (tt, start) in
    record {
      sorted = r.0;
      entries = r.1.of_entries.entries;
      guards = r.1.of_guards.guards;
      one_guard = r.1.of_guards.one_guard;
      narrow_gaps = r.1.of_entries.narrow;
    }
