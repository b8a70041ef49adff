-- `never-short`: the slices that each call of a trace is lent have room for what it lists.
use Prim.Native.Nat.{ℕ, ◌*◌, ◌≤◌}
use native.Mathlib.Omega.{arith}
use mathlib.Core.Path.{◌≡◌, refl, subst}
use mathlib.Core.Bool.{Bool, true, false, ◌&&◌, cond}
use mathlib.Core.List.{List, [], ◌∷◌, ◌++◌, map}
use Rattle.std.specs.Prelude.{Option, None, Some}
use Rattle.std.specs.Option.{option_or}
use lib.Dec.{eqb, leb}
use lib.ListN.{length, length-append}
use borrow.Author.Tests.{ltb-true, le-ltb}
use Rattle.lists.specs.Bytes.{Bytes, eq_bytes}
use Rattle.lists.specs.Lists.{Each}
use Rattle.lists.proofs.Elements.{length-keep}
use Rattle.store_rules.specs.Frames.{State, tracked, tentative, Entry, Guard, Visit}
use Rattle.store_rules.specs.Poll.{stay, leave}
use Rattle.store_rules.specs.Rules.{only_of, evict_rule, differs, reorg_in, reorg_rule, final_in, final_rule}
use Rattle.store_rules.specs.Lookup.{entries_of}
use Rattle.store_rules.specs.Store.{Store, empty, Call, long, push, poll, guard, enter_tentative, check_reorg, check_finalized, evict_sender, row_width, guard_of, drop_guard, walk, walked, effect, when, input_refusal, listed, room_refusal, refusal, unless, step}
use Rattle.store_rules.specs.Sweeps.{Item, single, step_item, run_items}
use Rattle.store_laws.proofs.Reachable.{every-run}
use Rattle.trace_format.specs.Traces.{lent, refusal_in, refusals}
use Rattle.trace_laws.specs.Laws.{NeverShort}

-- ---- a walk lists no more than there are entries

module _ {A : Type 0} where
  -- of each entry at most one
  abbrev Few : (Option Guard → Entry → Visit A) → Type 0
  Few rule = (g : Option Guard) (e : Entry) → length (rule g e).lists ≤ 1

  few-listed : (rule : Option Guard → Entry → Visit A) → Few rule → (es : List Entry) (gs : List Guard) → length (walk rule es gs).listed ≤ length es
  unfolding walk
  few-listed rule h [] gs = omega arith
  few-listed rule h (e ∷ es) gs =
      let v = rule (guard_of e.frame.hash gs) e in
      rw length-append (omega (arith, h (guard_of e.frame.hash gs) e, few-listed rule h es (cond v.drops (drop_guard e.frame.hash gs) gs)))

  few-if : (b : Bool) (v w : Visit A) → length v.lists ≤ 1 → length w.lists ≤ 1 → length (cond b v w).lists ≤ 1
  few-if true v w h k = h
  few-if false v w h k = k

few-evicted : (a : Bytes) → Few (only_of a evict_rule)
unfolding only_of evict_rule stay leave
few-evicted a g e = few-if (eq_bytes e.frame.from a) _ _ (omega arith) (omega arith)

few-reorganised : (b : ℕ) (canonical : Option Bytes) → Few (reorg_rule b canonical)
unfolding reorg_rule reorg_in stay
few-reorganised b canonical g e = go e.standing.state
  where
    go : (t : State) → length (reorg_in t b canonical e).lists ≤ 1
    go tracked = omega arith
    go (tentative c) = few-if (eqb c.block b && differs canonical c.block_hash) _ _ (omega arith) (omega arith)

few-finalized : (n : ℕ) → Few (final_rule n)
unfolding final_rule final_in stay leave
few-finalized n g e = go e.standing.state
  where
    go : (t : State) → length (final_in t n e).lists ≤ 1
    go tracked = omega arith
    go (tentative c) = few-if (leb c.block n) _ _ (omega arith) (omega arith)

-- ---- the refusals of one call

abbrev NotFive : Option ℕ → Type 0
NotFive None = Unit {0}
NotFive (Some n) = n ≡ 5 → ⊥

when-not-five : (b : Bool) (n : ℕ) → (b ≡ true → n ≡ 5 → ⊥) → NotFive (when b n)
unfolding when
when-not-five true n h = h refl
when-not-five false n h = tt

or-not-five : (o p : Option ℕ) → NotFive o → NotFive p → NotFive (option_or o p)
or-not-five None p h k = k
or-not-five (Some n) p h k = h

input-not-five : (c : Call) → NotFive (input_refusal c)
unfolding input_refusal
input-not-five (push f) = when-not-five _ 1 (λ t e. omega arith)
input-not-five (poll a head known content) = or-not-five _ _ (when-not-five _ 3 (λ t e. omega arith)) (when-not-five _ 4 (λ t e. omega arith))
input-not-five (guard g) = or-not-five _ _ (when-not-five _ 6 (λ t e. omega arith)) (when-not-five _ 7 (λ t e. omega arith))
input-not-five (enter_tentative h c) = tt
input-not-five (check_reorg b canonical) = tt
input-not-five (check_finalized n) = tt
input-not-five (evict_sender a) = tt

room-not-five : (s : Store) (c : Call) → length s.entries ≤ 64 → NotFive (room_refusal s c long 1216 4096)
unfolding room_refusal row_width entries_of effect walked listed
room-not-five s (push f) h = when-not-five _ 2 (λ t e. omega arith)
room-not-five s (poll a head known content) h = when-not-five _ 5 (λ t e. omega (arith, ltb-true, length-keep (λ x. eq_bytes x.frame.from a) s.entries))
room-not-five s (guard g) h = when-not-five _ 8 (λ t e. omega arith)
room-not-five s (enter_tentative x c) h = tt
room-not-five s (check_reorg b canonical) h = when-not-five _ 5 (λ t e. omega (arith, ltb-true, few-listed (reorg_rule b canonical) (few-reorganised b canonical) s.entries s.guards))
room-not-five s (check_finalized n) h =
    let dead = length (walk (final_rule n) s.entries s.guards).listed in
    let l = few-listed (final_rule n) (few-finalized n) s.entries s.guards in
    rw (le-ltb 1216 (3 * dead) (omega arith)) (when-not-five _ 5 (λ t e. omega (arith, ltb-true)))
room-not-five s (evict_sender a) h = when-not-five _ 5 (λ t e. omega (arith, ltb-true, few-listed (only_of a evict_rule) (few-evicted a) s.entries s.guards))

effect-answers : (s : Store) (c : Call) → refusal_in (effect s c).1 ≡ 0
unfolding effect walked refusal_in
effect-answers s (push f) = refl
effect-answers s (poll a head known content) = refl
effect-answers s (guard g) = refl
effect-answers s (enter_tentative h c) = refl
effect-answers s (check_reorg b canonical) = refl
effect-answers s (check_finalized n) = refl
effect-answers s (evict_sender a) = refl

step-not-five : (s : Store) (c : Call) → length s.entries ≤ 64 → refusal_in (step s (lent c)).1 ≡ 5 → ⊥
unfolding step unless refusal lent refusal_in
step-not-five s c h = go (option_or (input_refusal c) (room_refusal s c long 1216 4096)) (or-not-five _ _ (input-not-five c) (room-not-five s c h))
  where
    go : (o : Option ℕ) → NotFive o → refusal_in (unless o s (effect s c)).1 ≡ 5 → ⊥
    go None k e = omega (arith, effect-answers s c)
    go (Some n) k e = k e

-- ---- in a run

run-last : (s : Store) (is : List Item) (i : Item) → run_items s (is ++ i ∷ []) ≡ (step_item (run_items s is) i).0
unfolding run_items
run-last s [] i = refl
run-last s (x ∷ is) i = run-last (step_item s x).0 is i

never-short-after : (is : List Item) (cs : List Call) → Each (λ n. n ≡ 5 → ⊥) (refusals (run_items empty is) (map lent cs))
unfolding refusals step_item
never-short-after is [] = tt
never-short-after is (c ∷ cs) = (
  step-not-five (run_items empty is) c (every-run is).entries,
  subst (λ (s : Store). Each (λ n. n ≡ 5 → ⊥) (refusals s (map lent cs))) (run-last empty is (single (lent c))) (never-short-after (is ++ single (lent c) ∷ []) cs),
)

pub never-short : NeverShort
unfolding run_items
never-short = never-short-after []
