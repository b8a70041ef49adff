-- The claims of `specs.Listings`.
use Prim.Native.Nat.{ℕ, ◌<◌, min, max}
use native.Mathlib.Omega.{arith}
use mathlib.Core.Path.{◌≡◌, refl, sym, ap, ◌∙◌}
use mathlib.Core.Bool.{Bool, true, false, ◌&&◌, ◌||◌, not, cond, true≢false, or_assoc, or-false, and_comm}
use mathlib.Core.List.{List, [], ◌∷◌, ◌++◌}
use Rattle.std.specs.Prelude.{Option, Some}
use lib.Dec.{eqb, leb, ltb}
use borrow.Author.Tests.{eqb-true, eq-eqb, leb-true, leb-false, ltb-true, ltb-false, le-leb, lt-leb, lt-ltb, le-ltb}
use Rattle.lists.specs.Bytes.{Bytes, eq_bytes, le_bytes, Before}
use Rattle.lists.specs.Lists.{keep, is_empty, Each, Pairwise, collect, is_in}
use Rattle.lists.proofs.ByteOrder.{eq_bytes-true, clash}
use Rattle.lists.proofs.Elements.{each_keep, each-join, in-append, in-keep}
use Rattle.lists.proofs.Keeping.{each_both}
use Rattle.lists.proofs.Pairs.{pairwise-last}
use Rattle.store_rules.specs.Frames.{State, tracked, tentative, is_tracked, Frame, Entry, degraded}
use Rattle.store_rules.specs.Poll.{gap}
use Rattle.store_rules.specs.Lookup.{entries_of}
use Rattle.store_rules.specs.Store.{empty, NotBefore, Sorted, wide_gap}
use Rattle.store_rules.specs.Sweeps.{run_items}
use Rattle.queries.specs.Queries.{Block, put_block, with_block, blocks_from, tentative_blocks, is_among, senders_from, senders, put_number, put_numbers, window, pool_known_gap}
use Rattle.store_laws.specs.Reachable.{Reachable}
use Rattle.store_laws.specs.Listings.{hash_of, hash_in, last_hash, in_window, EveryListing}
use Rattle.store_laws.proofs.Placing.{put-ascending}
use Rattle.store_laws.proofs.Gaps.{gap-is-whole}
use Rattle.store_laws.proofs.Reachable.{every-run}

-- ---- tentative_blocks

abbrev AscendingBlocks : List Block → Type 0
AscendingBlocks = Pairwise (λ (x y : Block). x.block < y.block)

put_block-ascending : (b : Block) (bs : List Block) → AscendingBlocks bs → AscendingBlocks (put_block b bs)
unfolding put_block
put_block-ascending = put-ascending (λ (b : Block). b.block) (λ b x. b) put_block (λ b. refl) (λ b x xs. refl) (λ b x e. e)

with_block-ascending : (t : State) (bs : List Block) → AscendingBlocks bs → AscendingBlocks (with_block t bs)
unfolding with_block
with_block-ascending tracked bs h = h
with_block-ascending (tentative c) bs h = put_block-ascending _ bs h

blocks-ascending : (bs : List Block) (es : List Entry) → AscendingBlocks bs → AscendingBlocks (blocks_from bs es)
unfolding blocks_from
blocks-ascending bs [] h = h
blocks-ascending bs (e ∷ es) h = blocks-ascending (with_block e.standing.state bs) es (with_block-ascending e.standing.state bs h)

hash-put : (n : ℕ) (b : Block) (bs : List Block) → hash_of n (put_block b bs) ≡ cond (eqb b.block n) (Some b.block_hash) (hash_of n bs)
unfolding hash_of put_block
hash-put n b [] = refl
hash-put n b (x ∷ xs) = go (ltb b.block x.block) (eqb b.block x.block) refl (hash-put n b xs)
  where
    found : Block → Option Bytes → Option Bytes
    found y later = cond (eqb y.block n) (Some y.block_hash) later

    both : (c d : Bool) → eqb b.block n ≡ c → eqb x.block n ≡ d → eqb b.block x.block ≡ false → (later : Option Bytes) →
        cond d (Some x.block_hash) (cond c (Some b.block_hash) later) ≡ cond c (Some b.block_hash) (cond d (Some x.block_hash) later)
    both true true p q r later = clash (eq-eqb b.block x.block (eqb-true b.block n p ∙ sym (eqb-true x.block n q))) r
    both true false p q r later = refl
    both false true p q r later = refl
    both false false p q r later = refl

    go : (l e : Bool) → eqb b.block x.block ≡ e → hash_of n (put_block b xs) ≡ found b (hash_of n xs) →
        hash_of n (cond l (b ∷ x ∷ xs) (cond e (b ∷ xs) (x ∷ put_block b xs))) ≡ found b (found x (hash_of n xs))
    go true e p ih = refl
    go false true p ih = rw (← eqb-true b.block x.block p) (again (eqb b.block n))
      where
        again : (c : Bool) → cond c (Some b.block_hash) (hash_of n xs) ≡ cond c (Some b.block_hash) (cond c (Some x.block_hash) (hash_of n xs))
        again true = refl
        again false = refl
    go false false p ih = rw ih (both (eqb b.block n) (eqb x.block n) refl refl p (hash_of n xs))

hash-with : (n : ℕ) (t : State) (bs : List Block) → hash_of n (with_block t bs) ≡ hash_in n t (hash_of n bs)
unfolding with_block hash_in
hash-with n tracked bs = refl
hash-with n (tentative c) bs = hash-put n _ bs

pub last-hash : (n : ℕ) (bs : List Block) (es : List Entry) → hash_of n (blocks_from bs es) ≡ last_hash n (hash_of n bs) es
unfolding blocks_from last_hash
last-hash n bs [] = refl
last-hash n bs (e ∷ es) =
    last-hash n (with_block e.standing.state bs) es ∙ ap (λ (o : Option Bytes). last_hash n o es) (hash-with n e.standing.state bs)

-- ---- senders

none_from : (a : Bytes) (seen : List Bytes) → is_among a seen ≡ false → Each (λ x. eq_bytes x a ≡ false) seen
unfolding is_among
none_from a [] e = tt
none_from a (x ∷ xs) e = go (eq_bytes x a) refl e (none_from a xs)
  where
    go : (b : Bool) → eq_bytes x a ≡ b → (b || is_among a xs) ≡ false → (is_among a xs ≡ false → Each (λ y. eq_bytes y a ≡ false) xs) → Each (λ y. eq_bytes y a ≡ false) (x ∷ xs)
    go true p q ih = absurd (true≢false q)
    go false p q ih = (p, ih q)

-- no address listed so far comes after this entry's
abbrev Listed : List Bytes → Entry → Type 0
Listed seen e = Each (λ x. le_bytes x e.frame.from ≡ true) seen

pub senders-ascending : (seen : List Bytes) (es : List Entry) → Sorted es → Pairwise Before seen → Each (Listed seen) es → Pairwise Before (senders_from seen es)
unfolding senders_from
senders-ascending seen [] s h l = h
senders-ascending seen (e ∷ es) s h l = go (is_among e.frame.from seen) refl (λ seen'. senders-ascending seen' es s.1)
  where
    more : List Bytes
    more = seen ++ (e.frame.from ∷ [])

    listed : (fs : List Entry) → Each (NotBefore e.frame.from) fs → Each (Listed seen) fs → Each (Listed more) fs
    listed [] p q = tt
    listed (f ∷ fs) p q = (each-join (λ x. le_bytes x f.frame.from ≡ true) seen (e.frame.from ∷ []) q.0 (p.0, tt), listed fs p.1 q.1)

    go : (b : Bool) → is_among e.frame.from seen ≡ b → ((seen' : List Bytes) → Pairwise Before seen' → Each (Listed seen') es → Pairwise Before (senders_from seen' es)) →
        Pairwise Before (senders_from (cond b seen more) es)
    go true p ih = ih seen h l.1
    go false p ih =
        ih more
        (pairwise-last Before seen e.frame.from h
        (each_both (λ x. le_bytes x e.frame.from ≡ true) (λ x. eq_bytes x e.frame.from ≡ false) seen l.0 (none_from e.frame.from seen p)))
        (listed es s.0 l.1)

any_append : (a : Bytes) (xs ys : List Bytes) → is_among a (xs ++ ys) ≡ (is_among a xs || is_among a ys)
unfolding is_among
any_append a [] ys = refl
any_append a (x ∷ xs) ys = rw (any_append a xs ys) (sym (or_assoc (eq_bytes x a) (is_among a xs) (is_among a ys)))

every-sender : (a : Bytes) (seen : List Bytes) (es : List Entry) → is_among a (senders_from seen es) ≡ (is_among a seen || not (is_empty (entries_of a es)))
unfolding senders_from entries_of keep is_empty is_among
every-sender a seen [] = sym (or-false (is_among a seen))
every-sender a seen (e ∷ es) = go (is_among e.frame.from seen) refl (eq_bytes e.frame.from a) refl (λ seen'. every-sender a seen' es)
  where
    rests : Bool
    rests = not (is_empty (entries_of a es))

    go : (b : Bool) → is_among e.frame.from seen ≡ b → (c : Bool) → eq_bytes e.frame.from a ≡ c →
        ((seen' : List Bytes) → is_among a (senders_from seen' es) ≡ (is_among a seen' || rests)) →
        is_among a (senders_from (cond b seen (seen ++ (e.frame.from ∷ []))) es) ≡ (is_among a seen || not (is_empty (cond c (e ∷ entries_of a es) (entries_of a es))))
    go true p true q ih = ih seen ∙ rw (← eq_bytes-true e.frame.from a q, p)
    go true p false q ih = ih seen
    go false p c q ih = ih (seen ++ (e.frame.from ∷ [])) ∙ rw (any_append a seen (e.frame.from ∷ []), q) (last c (is_among a seen))
      where
        last : (d o : Bool) → (o || (d || false) || rests) ≡ (o || not (is_empty (cond d (e ∷ entries_of a es) (entries_of a es))))
        last true true = refl
        last true false = refl
        last false true = refl
        last false false = refl

-- ---- pool_known_gap

put_number-ascending : (n : ℕ) (ms : List ℕ) → Pairwise ◌<◌ ms → Pairwise ◌<◌ (put_number n ms)
unfolding put_number
put_number-ascending = put-ascending (λ (n : ℕ). n) (λ n m. m) put_number (λ n. refl) (λ n m ms. refl) (λ n m e. refl)

numbers-ascending : (ns ms : List ℕ) → Pairwise ◌<◌ ms → Pairwise ◌<◌ (put_numbers ns ms)
unfolding put_numbers
numbers-ascending [] ms h = h
numbers-ascending (n ∷ ns) ms h = numbers-ascending ns (put_number n ms) (put_number-ascending n ms h)

in-put : (n m : ℕ) (ms : List ℕ) → is_in n (put_number m ms) ≡ (eqb m n || is_in n ms)
unfolding is_in put_number
in-put n m [] = refl
in-put n m (x ∷ xs) = go (ltb m x) (eqb m x) refl (in-put n m xs)
  where
    go : (l e : Bool) → eqb m x ≡ e → is_in n (put_number m xs) ≡ (eqb m n || is_in n xs) →
        is_in n (cond l (m ∷ x ∷ xs) (cond e (x ∷ xs) (x ∷ put_number m xs))) ≡ (eqb m n || (eqb x n || is_in n xs))
    go true e p ih = refl
    go false true p ih = rw (eqb-true m x p) (again (eqb x n))
      where
        again : (b : Bool) → (b || is_in n xs) ≡ (b || (b || is_in n xs))
        again true = refl
        again false = refl
    go false false p ih = rw ih (turn (eqb x n) (eqb m n))
      where
        turn : (b c : Bool) → (b || (c || is_in n xs)) ≡ (c || (b || is_in n xs))
        turn true true = refl
        turn true false = refl
        turn false c = refl

in-puts : (n : ℕ) (ns ms : List ℕ) → is_in n (put_numbers ns ms) ≡ (is_in n ns || is_in n ms)
unfolding is_in put_numbers
in-puts n [] ms = refl
in-puts n (m ∷ ns) ms = in-puts n ns (put_number m ms) ∙ rw (in-put n m ms) (turn (is_in n ns) (eqb m n))
  where
    turn : (b c : Bool) → (b || (c || is_in n ms)) ≡ (c || b || is_in n ms)
    turn true true = refl
    turn true false = refl
    turn false true = refl
    turn false false = refl

from-both : (n m k : ℕ) → (leb m n && leb k n) ≡ leb (max m k) n
from-both n m k = go (leb m n) refl (leb k n) refl
  where
    go : (b : Bool) → leb m n ≡ b → (c : Bool) → leb k n ≡ c → (b && c) ≡ leb (max m k) n
    go true p true q = let l = leb-true m n p in let r = leb-true k n q in sym (le-leb (max m k) n (omega arith))
    go true p false q = let r = leb-false k n q in sym (lt-leb (max m k) n (omega arith))
    go false p c q = let l = leb-false m n p in sym (lt-leb (max m k) n (omega arith))

below_both : (n m k : ℕ) → (ltb n m && ltb n k) ≡ ltb n (min m k)
below_both n m k = go (ltb n m) refl (ltb n k) refl
  where
    go : (b : Bool) → ltb n m ≡ b → (c : Bool) → ltb n k ≡ c → (b && c) ≡ ltb n (min m k)
    go true p true q = let l = ltb-true n m p in let r = ltb-true n k q in sym (lt-ltb n (min m k) (omega arith))
    go true p false q = let r = ltb-false n k q in sym (le-ltb n (min m k) (omega arith))
    go false p c q = let l = ltb-false n m p in sym (le-ltb n (min m k) (omega arith))

module _ (head pending_count n : ℕ) where
  window-at : (e : Entry) → wide_gap e.frame ≡ false → is_in n (window head pending_count e) ≡ in_window head pending_count n e
  unfolding window in_window is_in
  window-at e h = go (is_tracked e.standing.state && not (degraded e.frame))
    where
      f : Frame
      f = e.frame

      pair : (b c d k : Bool) → ((b && c) && (d && k)) ≡ ((d && b) && (k && c))
      pair true c true k = and_comm c k
      pair true true false k = refl
      pair true false false k = refl
      pair false c true k = refl
      pair false c false k = refl

      go : (t : Bool) → is_in n (cond t (keep (λ m. leb head m && ltb m pending_count) (gap f)) []) ≡ (t && (leb (max f.expected head) n && ltb n (min f.claim pending_count)))
      go true =
          in-keep (λ m. leb head m && ltb m pending_count) n (gap f)
          ∙ rw ((gap-is-whole f h).every n, ← from-both n f.expected head, ← below_both n f.claim pending_count)
          (pair (leb head n) (ltb n pending_count) (leb f.expected n) (ltb n f.claim))
      go false = refl

  in-windows : (es : List Entry) → Each (λ e. wide_gap e.frame ≡ false) es → is_in n (collect (window head pending_count) es) ≡ not (is_empty (keep (in_window head pending_count n) es))
  unfolding collect keep is_empty is_in
  in-windows [] h = refl
  in-windows (e ∷ es) h = in-append n (window head pending_count e) (collect (window head pending_count) es) ∙ rw (window-at e h.0, in-windows es h.1) (go (in_window head pending_count n e))
    where
      kept : List Entry
      kept = keep (in_window head pending_count n) es

      go : (b : Bool) → (b || not (is_empty kept)) ≡ not (is_empty (cond b (e ∷ kept) kept))
      go true = refl
      go false = refl

-- ---- all of them

pub every-listing : EveryListing
unfolding tentative_blocks senders pool_known_gap entries_of hash_of is_among is_in
every-listing is = record {
  blocks = blocks-ascending [] es tt;
  block_hashes = λ n. last-hash n [] es;
  addresses = senders-ascending [] es r.sorted tt (nothing-listed es);
  every_sender = λ a. every-sender a [] es;
  nonces = λ a head pending_count. numbers-ascending (collect (window head pending_count) (entries_of a es)) [] tt;
  every_nonce = λ a head pending_count n.
      in-puts n (collect (window head pending_count) (entries_of a es)) [] ∙ or-false (is_in n (collect (window head pending_count) (entries_of a es)))
      ∙ in-windows head pending_count n (entries_of a es) (each_keep (λ e. eq_bytes e.frame.from a) _ es r.narrow_gaps);
}
  where
    r : Reachable (run_items empty is)
    r = every-run is

    es : List Entry
    es = (run_items empty is).entries

    nothing-listed : (fs : List Entry) → Each (Listed []) fs
    nothing-listed [] = tt
    nothing-listed (f ∷ fs) = (tt, nothing-listed fs)
