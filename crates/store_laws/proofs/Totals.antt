-- The totals add up (`totals-add-up`): each entry that a call visits is left or is counted once.
use Prim.Native.Nat.{ℕ, suc, ◌+◌, ◌-◌}
use native.Mathlib.Omega.{arith}
use mathlib.Core.Path.{◌≡◌, refl}
use mathlib.Core.Bool.{Bool, true, false, ◌&&◌, cond}
use mathlib.Core.List.{List, [], ◌∷◌, ◌++◌}
use Rattle.std.specs.Prelude.{Option, None, Some}
use lib.Dec.{eqb, leb}
use lib.ListN.{length, take, drop, length-append, take-append-drop}
use Rattle.lists.specs.Bytes.{Bytes, eq_bytes}
use Rattle.lists.specs.Lists.{keep, sum}
use Rattle.lists.proofs.Keeping.{keep_append}
use Rattle.store_rules.specs.Frames.{Consumed, State, tracked, tentative, Entry, Guard, Row, Visit}
use Rattle.store_rules.specs.Poll.{Content, predecessors, guard_matches, stay, leave, row, poll_rule}
use Rattle.store_rules.specs.Rules.{only_of, evict_rule, differs, reorg_in, reorg_rule, final_in, final_rule}
use Rattle.store_rules.specs.Lookup.{enter_head, enter_first}
use Rattle.store_rules.specs.Store.{Store, empty, Call, push, poll, guard, enter_tentative, check_reorg, check_finalized, evict_sender, long, Request, Answer, rows, guard_of, drop_guard, after, walk, walked, fresh, effect, listed, rows_of, refusal, unless, step, run}
use Rattle.store_rules.specs.Answers.{numbers_of}
use Rattle.store_rules.specs.Sweeps.{Sweep, polls_from, lent, in_turn, polls_in, rows_listed, sweep_refusal, sweep_effect, sweep_step, single, sweep, step_item, run_items}
use Rattle.store_rules.specs.Totals.{accepted_in, is_rescue, rescued_in, dead_in, is_eviction, evicted_in, answers, totals}
use Rattle.store_rules.proofs.PollCases.{PollCase, silent, consumed, holds, hold, waits, held_back, rescued, poll-case}
use Rattle.store_laws.specs.Totals.{accounted_for, TotalsAddUpFrom, TotalsAddUp}
use Rattle.store_laws.proofs.Reachable.{insert-length}

-- ---- a walk

-- a count of what is listed
module _ {A : Type 0} (count : List A → ℕ) where
  -- the entry is left, in front of those after it, or it is counted once
  abbrev Once : Entry → Visit A → Type 0
  Once e v = (es : List Entry) → length (after v.stays e.frame es) + count v.lists ≡ suc (length es)

  once-if : (b : Bool) (e : Entry) (v w : Visit A) → Once e v → Once e w → Once e (cond b v w)
  once-if true e v w h k = h
  once-if false e v w h k = k

  walk-length : ((xs ys : List A) → count (xs ++ ys) ≡ count xs + count ys) → (rule : Option Guard → Entry → Visit A) → ((g : Option Guard) (e : Entry) → Once e (rule g e)) →
      (es : List Entry) (gs : List Guard) → length (walk rule es gs).entries + count (walk rule es gs).listed ≡ length es
  unfolding walk
  walk-length append rule once [] gs = omega (arith, append [] [])
  walk-length append rule once (e ∷ es) gs =
      let g = guard_of e.frame.hash gs in
      let v = rule g e in
      let gs' = cond v.drops (drop_guard e.frame.hash gs) gs in
      let r = walk rule es gs' in
      omega (arith, append v.lists r.listed, once g e r.entries, walk-length append rule once es gs')

-- ---- the rules

abbrev pub rescues : List Row → ℕ
rescues l = rescued_in (rows l)

pub rescues-append : (xs ys : List Row) → rescues (xs ++ ys) ≡ rescues xs + rescues ys
unfolding rescued_in rows_of
rescues-append xs ys = rw (keep_append, length-append)

case-once : (head : ℕ) (known : List ℕ) (guarded : Bool) (e : Entry) (v : Visit Row) → PollCase head known guarded e v → Once rescues e v
unfolding stay leave row after rescued_in rows_of keep is_rescue
case-once head known guarded e v (silent t) es = omega arith
case-once head known guarded e v (consumed t y) es = omega arith
case-once head known guarded e v (holds t y x z) es = omega arith
case-once head known guarded e v (hold t y x z) es = omega arith
case-once head known guarded e v (waits t y x u) es = omega arith
case-once head known guarded e v (held_back t y x u g) es = omega arith
case-once head known guarded e v (rescued t y x u g) es = omega arith

poll-once : (a : Bytes) (head : ℕ) (known : List ℕ) (content : Option Content) (g : Option Guard) (e : Entry) → Once rescues e (only_of a (poll_rule head known content) g e)
unfolding only_of poll_rule stay after rescued_in rows_of keep
poll-once a head known content g e =
    let m = guard_matches g (predecessors head e.frame) e.frame.expected content in
    once-if rescues (eq_bytes e.frame.from a) e _ _ (case-once head known m e _ (poll-case head known m e)) (λ es. omega arith)

-- a reorganisation leaves every entry, and what it lists is not counted
reorg-once : (b : ℕ) (canonical : Option Bytes) (g : Option Guard) (e : Entry) → Once (λ l. 0) e (reorg_rule b canonical g e)
unfolding reorg_rule reorg_in stay after
reorg-once b canonical g e = go e.standing.state
  where
    go : (t : State) → Once (λ l. 0) e (reorg_in t b canonical e)
    go tracked = λ es. omega arith
    go (tentative c) = once-if (λ l. 0) (eqb c.block b && differs canonical c.block_hash) e _ _ (λ es. omega arith) (λ es. omega arith)

final-once : (n : ℕ) (g : Option Guard) (e : Entry) → Once length e (final_rule n g e)
unfolding final_rule final_in stay leave after
final-once n g e = go e.standing.state
  where
    go : (t : State) → Once length e (final_in t n e)
    go tracked = λ es. omega arith
    go (tentative c) = once-if length (leb c.block n) e _ _ (λ es. omega arith) (λ es. omega arith)

evict-once : (a : Bytes) (g : Option Guard) (e : Entry) → Once length e (only_of a evict_rule g e)
unfolding only_of evict_rule stay leave after
evict-once a g e = once-if length (eq_bytes e.frame.from a) e _ _ (λ es. omega arith) (λ es. omega arith)

-- ---- a call

head-length : (c : Consumed) (es : List Entry) → length (enter_head c es) ≡ length es
unfolding enter_head
head-length c [] = refl
head-length c (e ∷ es) = refl

enter-length : (h : Bytes) (c : Consumed) (es : List Entry) → length (enter_first h c es) ≡ length es
unfolding enter_first
enter-length h c es = rw (length-append, head-length, ← length-append, take-append-drop)

-- all that a store holds is left or was rescued
abbrev Rescues : Store → Store × Answer → Type 0
Rescues s r = length s.entries ≡ length r.0.entries + rescued_in r.1

poll-rescues : (s : Store) (o : Option ℕ) (a : Bytes) (head : ℕ) (known : List ℕ) (content : Option Content) → Rescues s (unless o s (effect s (poll a head known content)))
unfolding unless effect walked rescued_in rows_of keep
poll-rescues s None a head known content =
    omega (arith, walk-length rescues rescues-append (only_of a (poll_rule head known content)) (poll-once a head known content) s.entries s.guards)
poll-rescues s (Some n) a head known content = omega arith

-- all that a store holds or accepts is left, was rescued, is dead or was evicted
abbrev Balance : Store → Bool → Store × Answer → Type 0
Balance s evicts r = length s.entries + accepted_in r.1 ≡ length r.0.entries + rescued_in r.1 + dead_in r.1 + cond evicts (listed r.1) 0

effect-balance : (s : Store) (c : Call) → Balance s (is_eviction c) (effect s c)
unfolding effect walked unless accepted_in rescued_in rows_of keep dead_in listed
effect-balance s (push f) = omega (arith, insert-length (fresh f) s.entries)
effect-balance s (poll a head known content) = omega (arith, poll-rescues s None a head known content)
effect-balance s (guard g) = omega arith
effect-balance s (enter_tentative h c) = omega (arith, enter-length h c s.entries)
effect-balance s (check_reorg b canonical) = omega (arith, walk-length (λ l. 0) (λ xs ys. refl) (reorg_rule b canonical) (reorg-once b canonical) s.entries s.guards)
effect-balance s (check_finalized n) = omega (arith, walk-length length length-append (final_rule n) (final-once n) s.entries s.guards)
effect-balance s (evict_sender a) = omega (arith, walk-length length length-append (only_of a evict_rule) (evict-once a) s.entries s.guards)

-- what is refused leaves the store as it is, and nothing of it is counted
unless-balance : (s : Store) (evicts : Bool) (o : Option ℕ) (r : Store × Answer) → Balance s evicts r → Balance s evicts (unless o s r)
unfolding unless accepted_in rescued_in rows_of keep dead_in listed
unless-balance s evicts None r h = h
unless-balance s true (Some n) r h = omega arith
unless-balance s false (Some n) r h = omega arith

step-balance : (s : Store) (q : Request) → Balance s (is_eviction q.call) (step s q)
unfolding step
step-balance s q = unless-balance s (is_eviction q.call) (refusal s q) (effect s q.call) (effect-balance s q.call)

-- ---- a sweep

polls-rescue : (s : Store) (senders : Bytes) (hs cs nonces : List ℕ) (numbers : ℕ) →
    let qs = in_turn s (polls_from senders hs cs nonces) numbers in Rescues s (run s qs, rows (rows_listed s qs))
unfolding polls_from in_turn run rows_listed step rescued_in rows_of keep
polls-rescue s senders [] cs nonces numbers = omega arith
polls-rescue s senders (h ∷ hs) [] nonces numbers = omega arith
polls-rescue s senders (h ∷ hs) (c ∷ cs) nonces numbers =
    let q = lent (poll (take 20 senders) h (take c nonces) None) numbers in
    let left = numbers - length (numbers_of long (step s q).1) in
    rw rescues-append (omega (arith, poll-rescues s (refusal s q) (take 20 senders) h (take c nonces) None, polls-rescue (step s q).0 (drop 20 senders) hs cs (drop c nonces) left))

sweep-balance : (s : Store) (w : Sweep) → Balance s false (sweep_step s w)
unfolding sweep_step sweep_effect polls_in accepted_in dead_in
sweep-balance s w =
    unless-balance s false (sweep_refusal s w) (sweep_effect s w) (omega (arith, polls-rescue s w.senders w.heads w.counts w.nonces w.numbers))

-- ---- lists of calls and sweeps

pub totals-add-up-from : TotalsAddUpFrom
unfolding accounted_for totals answers run_items step_item evicted_in sum
totals-add-up-from s [] = omega arith
totals-add-up-from s (single q ∷ is) = omega (arith, step-balance s q, totals-add-up-from (step s q).0 is)
totals-add-up-from s (sweep w ∷ is) = omega (arith, sweep-balance s w, totals-add-up-from (sweep_step s w).0 is)

pub totals-add-up : TotalsAddUp
unfolding empty
totals-add-up is = omega (arith, totals-add-up-from empty is)
