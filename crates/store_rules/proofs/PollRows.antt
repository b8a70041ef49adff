-- The rows that a poll lists: which nonces each has, how many there are, and how many numbers they take.
use Prim.Native.Nat.{ℕ, ◌*◌, ◌≤◌}
use native.Mathlib.Omega.{arith}
use mathlib.Core.Path.{◌≡◌, refl}
use mathlib.Core.Bool.{Bool, true, false, cond}
use mathlib.Core.List.{List, [], ◌∷◌, ◌++◌}
use Rattle.std.specs.Prelude.{Option, None, Some}
use lib.ListN.{length, length-append}
use Rattle.lists.specs.Bytes.{Bytes, eq_bytes}
use Rattle.lists.specs.Lists.{keep, collect, Each}
use Rattle.lists.proofs.Elements.{each-join}
use Rattle.lists.proofs.Keeping.{each_map}
use Rattle.lists.proofs.Writing.{collect-length}
use Rattle.store_rules.specs.Frames.{Entry, Guard, nonce_consumed, Row, Visit}
use Rattle.store_rules.specs.Poll.{Content, predecessors, guard_matches, stay, leave, row, poll_rule}
use Rattle.store_rules.specs.Rules.{only_of}
use Rattle.store_rules.specs.Lookup.{entries_of}
use Rattle.store_rules.specs.Store.{Store, Call, push, poll, guard, enter_tentative, check_reorg, check_finalized, evict_sender, RowForm, row_width, Request, Answer, guard_of, drop_guard, walk, walked, rows_of, effect, refusal, unless, step}
use Rattle.store_rules.specs.Answers.{row_numbers, numbers_of}
use Rattle.store_rules.proofs.GapNonces.{InGap, preds-in-gap, unknown-in-gap, gap-few}
use Rattle.store_rules.proofs.RowForms.{row-length}
use Rattle.store_rules.proofs.PollCases.{PollCase, silent, consumed, holds, hold, waits, held_back, rescued, poll-case}

-- ---- its nonces, in every case of the rule

-- a row lists nonces of the gap, and NonceConsumed none
pub record Narrow (r : Row) : Type 0 where
  pub ascending : InGap r.frame r.nonces
  pub consumed : r.decision ≡ nonce_consumed → r.nonces ≡ []

visit-narrow : (head : ℕ) (known : List ℕ) (guarded : Bool) (e : Entry) (v : Visit Row) → PollCase head known guarded e v → Each Narrow v.lists
unfolding stay leave row
visit-narrow head known guarded e v (silent t) = tt
visit-narrow head known guarded e v (consumed t y) = (record { ascending = tt; consumed = λ q. refl }, tt)
visit-narrow head known guarded e v (holds t y x z) = tt
visit-narrow head known guarded e v (hold t y x z) = (record { ascending = unknown-in-gap head e.frame known; consumed = λ q. cc }, tt)
visit-narrow head known guarded e v (waits t y x u) = (record { ascending = unknown-in-gap head e.frame known; consumed = λ q. cc }, tt)
visit-narrow head known guarded e v (held_back t y x u g) = (record { ascending = preds-in-gap head e.frame; consumed = λ q. cc }, tt)
visit-narrow head known guarded e v (rescued t y x u g) = (record { ascending = preds-in-gap head e.frame; consumed = λ q. cc }, tt)

rule-narrow : (a : Bytes) (head : ℕ) (known : List ℕ) (content : Option Content) (g : Option Guard) (e : Entry) → Each Narrow (only_of a (poll_rule head known content) g e).lists
unfolding only_of poll_rule stay
rule-narrow a head known content g e = go (eq_bytes e.frame.from a)
  where
    matches : Bool
    matches = guard_matches g (predecessors head e.frame) e.frame.expected content

    go : (b : Bool) → Each Narrow (cond b (poll_rule head known content g e) (stay e.standing [])).lists
    go true = visit-narrow head known matches e _ (poll-case head known matches e)
    go false = tt

walk-narrow : (rule : Option Guard → Entry → Visit Row) → ((g : Option Guard) (e : Entry) → Each Narrow (rule g e).lists) → (es : List Entry) (gs : List Guard) →
    Each Narrow (walk rule es gs).listed
unfolding walk
walk-narrow rule h [] gs = tt
walk-narrow rule h (e ∷ es) gs =
    let v = rule (guard_of e.frame.hash gs) e in
    each-join Narrow v.lists _ (h (guard_of e.frame.hash gs) e) (walk-narrow rule h es (cond v.drops (drop_guard e.frame.hash gs) gs))

pub effect-narrow : (s : Store) (c : Call) → Each Narrow (rows_of (effect s c).1)
unfolding effect walked rows_of
effect-narrow s (push f) = tt
effect-narrow s (poll a head known content) = walk-narrow (only_of a (poll_rule head known content)) (rule-narrow a head known content) s.entries s.guards
effect-narrow s (guard g) = tt
effect-narrow s (enter_tentative h c) = tt
effect-narrow s (check_reorg b canonical) = tt
effect-narrow s (check_finalized n) = tt
effect-narrow s (evict_sender a) = tt

pub step-narrow : (s : Store) (q : Request) → Each Narrow (rows_of (step s q).1)
unfolding step unless rows_of
step-narrow s q = go (refusal s q)
  where
    go : (o : Option ℕ) → Each Narrow (rows_of (unless o s (effect s q.call)).1)
    go None = effect-narrow s q.call
    go (Some n) = tt

-- ---- a poll gives at most one row for each entry of the sender

one-row : (head : ℕ) (known : List ℕ) (guarded : Bool) (e : Entry) (v : Visit Row) → PollCase head known guarded e v → length v.lists ≤ 1
unfolding stay leave row
one-row head known guarded e v (silent t) = omega arith
one-row head known guarded e v (consumed t y) = omega arith
one-row head known guarded e v (holds t y x z) = omega arith
one-row head known guarded e v (hold t y x z) = omega arith
one-row head known guarded e v (waits t y x u) = omega arith
one-row head known guarded e v (held_back t y x u g) = omega arith
one-row head known guarded e v (rescued t y x u g) = omega arith

polled-once : (head : ℕ) (known : List ℕ) (content : Option Content) (g : Option Guard) (e : Entry) → length (poll_rule head known content g e).lists ≤ 1
unfolding poll_rule
polled-once head known content g e =
    let m : Bool = guard_matches g (predecessors head e.frame) e.frame.expected content in
    one-row head known m e _ (poll-case head known m e)

pub few-rows : (sender : Bytes) (head : ℕ) (known : List ℕ) (content : Option Content) (es : List Entry) (gs : List Guard) →
    length (walk (only_of sender (poll_rule head known content)) es gs).listed ≤ length (entries_of sender es)
unfolding walk only_of entries_of keep stay
few-rows sender head known content [] gs = omega arith
few-rows sender head known content (e ∷ es) gs = go (eq_bytes e.frame.from sender) (λ gs'. few-rows sender head known content es gs')
  where
    go : (b : Bool) → ((gs' : List Guard) → length (walk (only_of sender (poll_rule head known content)) es gs').listed ≤ length (keep (λ x. eq_bytes x.frame.from sender) es)) →
        length
        ((cond b (poll_rule head known content (guard_of e.frame.hash gs) e) (stay e.standing [])).lists
        ++ (walk (only_of sender (poll_rule head known content)) es
        (cond (cond b (poll_rule head known content (guard_of e.frame.hash gs) e) (stay e.standing [])).drops (drop_guard e.frame.hash gs) gs)
        ).listed)
        ≤ length (cond b (e ∷ keep (λ x. eq_bytes x.frame.from sender) es) (keep (λ x. eq_bytes x.frame.from sender) es))
    go true ih =
        let v : Visit Row = poll_rule head known content (guard_of e.frame.hash gs) e in
        rw length-append (omega (arith, polled-once head known content (guard_of e.frame.hash gs) e, ih (cond v.drops (drop_guard e.frame.hash gs) gs)))
    go false ih = ih gs

-- ---- the numbers of rows

pub rows-length : (form : RowForm) (l : List Row) → Each Narrow l → length (collect (row_numbers form) l) ≡ row_width form * length l
rows-length form l h =
    collect-length (row_numbers form) (row_width form) l (each_map Narrow _ l (λ r n. row-length form r (gap-few r.frame r.nonces n.ascending)) h)

module _ (s : Store) (form : RowForm) (sender : Bytes) (head : ℕ) (known : List ℕ) (content : Option Content) (numbers : ℕ) where
  abbrev polled : Answer
  polled = (step s (record { call = poll sender head known content; form = form; numbers = numbers; bytes = 0 })).1

  -- a poll writes its rows and nothing else
  pub poll-writes : numbers_of form polled ≡ collect (row_numbers form) (rows_of polled)
  unfolding step unless effect walked numbers_of rows_of collect
  poll-writes = go (refusal s (record { call = poll sender head known content; form = form; numbers = numbers; bytes = 0 }))
    where
      go : (o : Option ℕ) →
          numbers_of form (unless o s (effect s (poll sender head known content))).1 ≡ collect (row_numbers form) (rows_of (unless o s (effect s (poll sender head known content))).1)
      go None = refl
      go (Some n) = refl

  pub poll-length : length (numbers_of form polled) ≡ row_width form * length (rows_of polled)
  poll-length = rw poll-writes (rows-length form (rows_of polled) (step-narrow s (record { call = poll sender head known content; form = form; numbers = numbers; bytes = 0 })))
