-- Selections: what one makes of the entries is what its call makes of them, and what is written of each.
use Prim.Native.Nat.{ℕ, ◌+◌, ◌*◌, ◌≤◌, ◌<◌}
use native.Mathlib.Nat.{zero-mul, one-mul}
use native.Mathlib.Omega.{arith}
use mathlib.Core.Path.{◌≡◌, refl, sym, ap, ◌∙◌}
use mathlib.Core.Bool.{Bool, true, false, ◌||◌, not, cond, or-false, false≢true, true≢false}
use mathlib.Core.List.{List, [], ◌∷◌, ◌++◌, map}
use Rattle.std.specs.Prelude.{Option, None, Some}
use lib.Dec.{leb, ltb}
use lib.ListN.{length, set, length-append}
use borrow.Author.Tests.{le-ltb, eq-eqb}
use Rattle.lists.specs.Bytes.{Bytes, eq_bytes}
use Rattle.lists.specs.Lists.{keep, written_at}
use Rattle.lists.proofs.Writing.{one_at, at-behind}
use Rattle.store_rules.specs.Frames.{State, tracked, tentative, Entry, Guard, Visit}
use Rattle.store_rules.specs.Poll.{stay, leave}
use Rattle.store_rules.specs.Rules.{only_of, evict_rule, differs, reorg_in, reorg_rule, final_in, final_rule}
use Rattle.store_rules.specs.Store.{guard_of, drop_guard, after, Walked, walk}
use Rattle.store_rules.specs.Answers.{kind_number, taker_hash, ticket_numbers, dead_numbers, dead_bytes}
use Rattle.store_rules.specs.View.{consumed_of, state_seen, block_of, entry_of}
use Rattle.store_rules.specs.declared.Entry as coded
use Rattle.store_rules.specs.declared.NonceConsumed.{NonceConsumed}
use Rattle.store_rules.specs.declared.FrameState.TheVariants.{Tracked, Tentative}
use Rattle.store_rules.specs.Listing.{Puts}
use Rattle.store_rules.proofs.Seen.{block-seen, hash-seen}
use Rattle.decisions.specs.Selections.{revives, ends, selected, taken, select_rule, consumed_in, dead_of, number_width, byte_width, numbers_for, bytes_for, is_finality, is_tentative}
use Rattle.decisions.specs.declared.selection.Selection.{Selection}
use Rattle.decisions.specs.declared.selection.Selection.TheVariants.{OfSender, Reorganised, Finalized}

-- ---- the tests

module _ (e : coded.Entry) (c : NonceConsumed) (s : e.state ≡ Tentative c) (block : ℕ) where
  module _ (b : block_of c ≡ block) where
    pub any-hash : true ≡ revives (state_seen e.state e.block_hash e.taker) block None
    unfolding differs
    any-hash = rw (s, block-seen c e.block_hash e.taker, eq-eqb (block_of c) block b)

    pub that-hash : (hash : Bytes) → not (eq_bytes hash e.block_hash) ≡ revives (state_seen e.state e.block_hash e.taker) block (Some hash)
    unfolding differs
    that-hash hash = rw (s, block-seen c e.block_hash e.taker, eq-eqb (block_of c) block b, hash-seen c e.block_hash e.taker)

-- ---- a selection is its call's rule

abbrev pub map_visit : {A B : Type 0} → (A → B) → Visit A → Visit B
map_visit f v = record { stays = v.stays; drops = v.drops; lists = map f v.lists }

module _ (g : Option Guard) (e : Entry) where
  pub evict-selects : (a : Bytes) → only_of a evict_rule g e ≡ map_visit (λ x. x.frame) (select_rule (OfSender a) e)
  unfolding only_of evict_rule stay leave
  evict-selects a = go (eq_bytes e.frame.from a)
    where
      go : (t : Bool) → cond t (leave (e.frame ∷ [])) (stay e.standing []) ≡ map_visit (λ x. x.frame) (cond t (taken (OfSender a) e) (stay e.standing []))
      go true = refl
      go false = refl

  pub reorg-selects : (block : ℕ) (hash : Option Bytes) → reorg_rule block hash g e ≡ map_visit (λ x. x.frame) (select_rule (Reorganised block hash) e)
  unfolding reorg_rule reorg_in stay
  reorg-selects block hash = go e.standing.state
    where
      by-test : (t : Bool) →
          cond t (record { stays = Some (record { state = tracked; held = e.standing.held }); drops = true; lists = e.frame ∷ [] }) (stay e.standing [])
          ≡ map_visit (λ x. x.frame) (cond t (taken (Reorganised block hash) e) (stay e.standing []))
      by-test true = refl
      by-test false = refl

      go : (st : State) → reorg_in st block hash e
          ≡ map_visit (λ x. x.frame) (cond (revives st block hash) (taken (Reorganised block hash) e) (stay e.standing []))
      go tracked = refl
      go (tentative c) = by-test (revives (tentative c) block hash)

  pub final-selects : (block : ℕ) → final_rule block g e ≡ map_visit dead_of (select_rule (Finalized block) e)
  unfolding final_rule final_in stay leave
  final-selects block = go e.standing.state refl
    where
      go : (st : State) → e.standing.state ≡ st → final_in st block e ≡ map_visit dead_of (cond (ends st block) (taken (Finalized block) e) (stay e.standing []))
      go tracked q = refl
      go (tentative c) q = by-test (leb c.block block)
        where
          by-test : (t : Bool) → cond t (leave (record { frame = e.frame; consumed = c } ∷ [])) (stay e.standing [])
              ≡ map_visit dead_of (cond t (taken (Finalized block) e) (stay e.standing []))
          by-test true = rw q
          by-test false = refl

-- ---- a walk by a selection

map-append : {A B : Type 0} (f : A → B) (a b : List A) → map f (a ++ b) ≡ map f a ++ map f b
map-append f [] b = refl
map-append {B = B} f (x ∷ xs) b = ap {B = List B} (λ r. f x ∷ r) (map-append f xs b)

abbrev pub map_walked : {A B : Type 0} → (A → B) → Walked A → Walked B
map_walked f w = record { entries = w.entries; guards = w.guards; listed = map f w.listed }

-- two rules that differ in what they list of an entry differ so over a walk
module _ {A B : Type 0} (f : A → B) (rule : Option Guard → Entry → Visit B) (rule' : Option Guard → Entry → Visit A)
    (same : (g : Option Guard) (e : Entry) → rule g e ≡ map_visit f (rule' g e)) where
  pub walk-map : (es : List Entry) (gs : List Guard) → walk rule es gs ≡ map_walked f (walk rule' es gs)
  unfolding walk
  walk-map [] gs = refl
  walk-map (e ∷ es) gs =
      let v : Visit A = rule' (guard_of e.frame.hash gs) e in
      let r : Walked A = walk rule' es (cond v.drops (drop_guard e.frame.hash gs) gs) in
      rw (same (guard_of e.frame.hash gs) e, walk-map es (cond v.drops (drop_guard e.frame.hash gs) gs))
      (λ i. record { entries = after v.stays e.frame r.entries; guards = r.guards; listed = sym (map-append f v.lists r.listed) i })

pub select-count : (s : Selection) (es : List Entry) (gs : List Guard) → length (walk (λ g. select_rule s) es gs).listed ≡ length (keep (selected s) es)
unfolding walk keep stay
select-count s [] gs = refl
select-count s (e ∷ es) gs = go (selected s e) (λ gs'. select-count s es gs')
  where
    go : (t : Bool) → ((gs' : List Guard) → length (walk (λ g. select_rule s) es gs').listed ≡ length (keep (selected s) es)) →
        length
        ((cond t (taken s e) (stay e.standing [])).lists
        ++ (walk (λ g. select_rule s) es (cond (cond t (taken s e) (stay e.standing [])).drops (drop_guard e.frame.hash gs) gs)).listed)
        ≡ length (cond t (e ∷ keep (selected s) es) (keep (selected s) es))
    go true ih = rw length-append (omega (arith, ih (cond (taken s e).drops (drop_guard e.frame.hash gs) gs)))
    go false ih = ih gs

-- ---- what is written of an entry

pub numbers-width : (s : Selection) (e : Entry) → length (numbers_for s e) ≡ number_width s
unfolding ticket_numbers dead_numbers
numbers-width (OfSender a) e = refl
numbers-width (Reorganised block hash) e = refl
numbers-width (Finalized block) e = refl

bytes-width : (s : Selection) (e : Entry) → length (consumed_in e.standing.state).block_hash ≡ 32 → length (taker_hash (consumed_in e.standing.state).kind) ≡ 32 →
    length (bytes_for s e) ≡ byte_width s
unfolding dead_bytes
bytes-width (OfSender a) e h t = refl
bytes-width (Reorganised block hash) e h t = refl
bytes-width (Finalized block) e h t = simp length-append (omega arith)

-- any but finality
pub not-final : (s : Selection) → ((block : ℕ) → s ≡ Finalized block → ⊥) → is_finality s ≡ false
not-final (OfSender a) k = refl
not-final (Reorganised block hash) k = refl
not-final (Finalized block) k = absurd (k block refl)

-- an eviction or a reorganisation writes a number, and no bytes
one-short : (count numbers bytes : ℕ) → ltb numbers count ≡ (ltb numbers (1 * count) || ltb bytes (0 * count))
one-short count numbers bytes = rw (one-mul, zero-mul, le-ltb bytes 0 (omega arith)) (sym (or-false (ltb numbers count)))

pub short-of : (s : Selection) → is_finality s ≡ false → (count numbers bytes : ℕ) →
    ltb numbers count ≡ (ltb numbers (number_width s * count) || ltb bytes (byte_width s * count))
short-of (OfSender a) k count numbers bytes = one-short count numbers bytes
short-of (Reorganised block hash) k count numbers bytes = one-short count numbers bytes
short-of (Finalized block) k count numbers bytes = absurd (true≢false k)

-- the entry is listed after n others
abbrev pub Lists : Selection → Entry → ℕ → List ℕ → Bytes → List ℕ → Bytes → Type 0
Lists s e n numbers bytes numbers' bytes' =
    (numbers' ≡ written_at (number_width s * n) (numbers_for s e) numbers) × (bytes' ≡ written_at (byte_width s * n) (bytes_for s e) bytes)
    × (length (bytes_for s e) ≡ byte_width s)

pub room_for : (s : Selection) → is_finality s ≡ false → (n room : ℕ) → number_width s * n + number_width s ≤ room → n < room
room_for (OfSender a) k n room h = omega arith
room_for (Reorganised block hash) k n room h = omega arith
room_for (Finalized block) k n room h = absurd (true≢false k)

-- an entry that is final is tentative
pub never-final : (e : coded.Entry) → e.state ≡ Tracked → is_tentative (entry_of e).standing.state ≡ true → ⊥
never-final e s h =
    let f : is_tentative (entry_of e).standing.state ≡ false = rw s in
    false≢true (sym f ∙ h)

pub ticket-listed : (s : Selection) → is_finality s ≡ false → (e : Entry) (n : ℕ) (numbers : List ℕ) (bytes : Bytes) →
    n < length numbers → Lists s e n numbers bytes (set numbers n e.frame.ticket) bytes
unfolding ticket_numbers
ticket-listed (OfSender a) k e n numbers bytes h = (rw one-mul (one_at numbers n e.frame.ticket h), rw zero-mul, refl)
ticket-listed (Reorganised block hash) k e n numbers bytes h = (rw one-mul (one_at numbers n e.frame.ticket h), rw zero-mul, refl)
ticket-listed (Finalized block) k e n numbers bytes h = absurd (true≢false k)

-- the entry's numbers and hashes, where it is final
pub dead-listed : (e : coded.Entry) (c : NonceConsumed) → e.state ≡ Tentative c → (limit n : ℕ) (numbers : List ℕ) (bytes first second shown : Bytes) (block kind : ℕ) →
    3 * n + 3 ≤ length numbers → 64 * n + 64 ≤ length bytes → block ≡ block_of c →
    kind ≡ kind_number (consumed_of c e.block_hash e.taker).kind → shown ≡ taker_hash (consumed_of c e.block_hash e.taker).kind →
    Puts (64 * n) e.block_hash bytes 32 first → Puts (64 * n + 32) shown first 32 second →
    Lists (Finalized limit) (entry_of e) n numbers bytes (written_at (3 * n) (e.frame.ticket ∷ block ∷ kind ∷ []) numbers) second
unfolding dead_numbers dead_bytes
dead-listed e c s limit n numbers bytes first second shown block kind h b is_Block is-kind is-shown p q =
    let at : 64 * n + 32 ≡ 64 * n + length e.block_hash = omega (arith, p.sized) in
    let room : 64 * n + length e.block_hash ≤ length bytes = omega (arith, p.sized) in (
      rw (s, block-seen c e.block_hash e.taker, ← is_Block, ← is-kind),
      q.slice ∙ rw (at, p.slice, s, hash-seen c e.block_hash e.taker, ← is-shown) (at-behind (64 * n) e.block_hash shown bytes room),
      bytes-width (Finalized limit) (entry_of e) (rw (s, hash-seen c e.block_hash e.taker) p.sized) (rw (s, ← is-shown) q.sized),
    )
