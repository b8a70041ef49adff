-- What each of the seven calls is read as, by the places of its inputs, and when it is not read.
use Prim.Native.Nat.{ℕ, zero, suc, ◌+◌, ◌≤◌, ◌<◌}
use native.Mathlib.Omega.{arith}
use mathlib.Core.Path.{◌≡◌, refl, ap, ◌∙◌}
use mathlib.Core.Bool.{Bool, true, false, ◌&&◌}
use mathlib.Core.List.{List, [], ◌∷◌}
use lib.Dec.{eqb, ltb}
use borrow.Author.Tests.{eqb-true, ltb-true, ltb-false}
use Rattle.std.specs.Prelude.{None, Some}
use lib.ListN.{length, take, drop, get_or}
use Rattle.lists.specs.Bytes.{Bytes, eq_bytes}
use Rattle.wire.specs.Numbers.{num}
use Rattle.store_rules.specs.Frames.{mined, taken, taken_by, GuardKind, reparked, unhydratable, Guard}
use Rattle.store_rules.specs.Poll.{Content}
use Rattle.store_rules.specs.Store.{push, poll, guard, enter_tentative, check_reorg, check_finalized, evict_sender}
use Rattle.trace_format.specs.Reading.{Read, got, ReadCall, part, number, numbers, hashes, by_flag, optional, content, read_push, read_poll, guard_inputs, guard_by, read_guard, block_inputs, enter_by, read_enter, read_reorg, read_final, read_evict, mark, by_mark, read_call}
use Rattle.trace_format.specs.Standing.{NotRead}
use Rattle.trace_parts.specs.Parts.{list_end, bytes_at, numbers_at}
use Rattle.trace_calls.proofs.Places.{part_in, part-not, part-still, byte-in, byte-not, list-in, list-not}

-- the number at a place
abbrev pub number_at : ℕ → Bytes → ℕ
number_at at bs = num (take 8 (drop at bs))

-- ---- lists

module _ {A : Type 0} (at : ℕ) (bs : Bytes) (next : List ℕ → Bytes → Read A) where
  numbers-in : list_end 8 at bs ≤ length bs → numbers (drop at bs) next ≡ next (numbers_at at bs) (drop (list_end 8 at bs) bs)
  unfolding numbers
  numbers-in h = list-in 8 at bs _ h

  numbers-not : (list_end 8 at bs ≤ length bs → NotRead (next (numbers_at at bs) (drop (list_end 8 at bs) bs))) → NotRead (numbers (drop at bs) next)
  unfolding numbers
  numbers-not f = list-not 8 at bs _ f

  hashes-in : list_end 1 at bs ≤ length bs → hashes (drop at bs) next ≡ next (bytes_at 1 at bs) (drop (list_end 1 at bs) bs)
  unfolding hashes
  hashes-in h = list-in 1 at bs _ h

  hashes-not : (list_end 1 at bs ≤ length bs → NotRead (next (bytes_at 1 at bs) (drop (list_end 1 at bs) bs))) → NotRead (hashes (drop at bs) next)
  unfolding hashes
  hashes-not f = list-not 1 at bs _ f

-- ---- a byte that may not stand in its place

pub flag-bad : {A : Type 0} (n : ℕ) (absent present : Read A) → (n ≡ 0 → ⊥) → (n ≡ 1 → ⊥) → NotRead (by_flag n absent present)
unfolding by_flag
flag-bad zero absent present z o = absurd (z refl)
flag-bad (suc zero) absent present z o = absurd (o refl)
flag-bad (suc (suc n)) absent present z o = tt

-- ---- the calls

module _ (bs : Bytes) where
  pub push-read : 94 ≤ length bs → read_push (drop 2 bs) ≡ got (push (record {
    hash = take 32 (drop 2 bs);
    from = take 20 (drop 34 bs);
    expected = number_at 54 bs;
    claim = number_at 62 bs;
    chain_id = number_at 70 bs;
    gas = number_at 78 bs;
    ticket = number_at 86 bs;
  })) (drop 94 bs)
  unfolding read_push number
  push-read h =
      part_in 32 2 bs _ (omega arith) ∙ part_in 20 34 bs _ (omega arith)
      ∙ part_in 8 54 bs _ (omega arith) ∙ part_in 8 62 bs _ (omega arith) ∙ part_in 8 70 bs _ (omega arith) ∙ part_in 8 78 bs _ (omega arith) ∙ part_in 8 86 bs _ (omega arith)

  pub push-not : length bs < 94 → NotRead (read_push (drop 2 bs))
  unfolding read_push number
  push-not h =
      part-still 32 2 bs _ (part-still 20 34 bs _
      (part-still 8 54 bs _ (part-still 8 62 bs _ (part-still 8 70 bs _ (part-still 8 78 bs _ (part-not 8 86 bs _ (λ g. absurd (omega arith))))))))

  pub final-read : 10 ≤ length bs → read_final (drop 2 bs) ≡ got (check_finalized (number_at 2 bs)) (drop 10 bs)
  unfolding read_final number
  final-read h = part_in 8 2 bs _ (omega arith)

  pub final-not : length bs < 10 → NotRead (read_final (drop 2 bs))
  unfolding read_final number
  final-not h = part-not 8 2 bs _ (λ a. absurd (omega arith))

  pub evict-read : 22 ≤ length bs → read_evict (drop 2 bs) ≡ got (evict_sender (take 20 (drop 2 bs))) (drop 22 bs)
  unfolding read_evict
  evict-read h = part_in 20 2 bs _ (omega arith)

  pub evict-not : length bs < 22 → NotRead (read_evict (drop 2 bs))
  unfolding read_evict
  evict-not h = part-not 20 2 bs _ (λ a. absurd (omega arith))

  -- ---- entering

  -- by the kind
  module _ (h : 75 ≤ length bs) where
    pub enter-read : read_enter (drop 2 bs) ≡ enter_by (get_or bs 34 0) (take 32 (drop 2 bs)) (drop 35 bs)
    unfolding read_enter
    enter-read = part_in 32 2 bs _ (omega arith) ∙ byte-in 34 bs _ (omega arith)

    pub enter-mined : enter_by 1 (take 32 (drop 2 bs)) (drop 35 bs) ≡ got (enter_tentative (take 32 (drop 2 bs)) (record { kind = mined; block = number_at 35 bs; block_hash = take 32 (drop 43 bs) })) (drop 75 bs)
    unfolding enter_by block_inputs number
    enter-mined = part_in 8 35 bs _ (omega arith) ∙ part_in 32 43 bs _ (omega arith)

    pub enter-taken : enter_by 2 (take 32 (drop 2 bs)) (drop 35 bs) ≡ got (enter_tentative (take 32 (drop 2 bs)) (record { kind = taken; block = number_at 35 bs; block_hash = take 32 (drop 43 bs) })) (drop 75 bs)
    unfolding enter_by block_inputs number
    enter-taken = part_in 8 35 bs _ (omega arith) ∙ part_in 32 43 bs _ (omega arith)

    pub enter-taken-by : 107 ≤ length bs → enter_by 3 (take 32 (drop 2 bs)) (drop 35 bs)
        ≡ got (enter_tentative (take 32 (drop 2 bs)) (record { kind = taken_by (take 32 (drop 75 bs)); block = number_at 35 bs; block_hash = take 32 (drop 43 bs) })) (drop 107 bs)
    unfolding enter_by block_inputs number
    enter-taken-by g = part_in 8 35 bs _ (omega arith) ∙ part_in 32 43 bs _ (omega arith) ∙ part_in 32 75 bs _ (omega arith)

  -- too short for any kind, or for a taker
  enter-cut : (kind : ℕ) → length bs < 75 → NotRead (enter_by kind (take 32 (drop 2 bs)) (drop 35 bs))
  unfolding enter_by block_inputs number
  enter-cut zero h = tt
  enter-cut (suc zero) h = part-still 8 35 bs _ (part-not 32 43 bs _ (λ g. absurd (omega arith)))
  enter-cut (suc (suc zero)) h = part-still 8 35 bs _ (part-not 32 43 bs _ (λ g. absurd (omega arith)))
  enter-cut (suc (suc (suc zero))) h = part-still 8 35 bs _ (part-not 32 43 bs _ (λ g. absurd (omega arith)))
  enter-cut (suc (suc (suc (suc n)))) h = tt

  pub enter-not : length bs < 75 → NotRead (read_enter (drop 2 bs))
  unfolding read_enter
  enter-not h = part-still 32 2 bs _ (byte-not 34 bs _ (λ g. enter-cut (get_or bs 34 0) h))

  pub taker-not : length bs < 107 → NotRead (enter_by 3 (take 32 (drop 2 bs)) (drop 35 bs))
  unfolding enter_by block_inputs number
  taker-not h = part-still 8 35 bs _ (part-still 32 43 bs _ (part-not 32 75 bs _ (λ g. absurd (omega arith))))

  pub kind-not : (kind : ℕ) (hash rest : Bytes) → (kind ≡ 1 → ⊥) → (kind ≡ 2 → ⊥) → (kind ≡ 3 → ⊥) → NotRead (enter_by kind hash rest)
  unfolding enter_by
  kind-not zero hash rest a b c = tt
  kind-not (suc zero) hash rest a b c = absurd (a refl)
  kind-not (suc (suc zero)) hash rest a b c = absurd (b refl)
  kind-not (suc (suc (suc zero))) hash rest a b c = absurd (c refl)
  kind-not (suc (suc (suc (suc n)))) hash rest a b c = tt

  -- ---- a reorganisation

  pub reorg-read : 11 ≤ length bs → read_reorg (drop 2 bs)
      ≡ by_flag (get_or bs 10 0) (got (check_reorg (number_at 2 bs) None) (drop 11 bs)) (part 32 (drop 11 bs) (λ hash. got (check_reorg (number_at 2 bs) (Some hash))))
  unfolding read_reorg optional number
  reorg-read h = part_in 8 2 bs _ (omega arith) ∙ byte-in 10 bs _ (omega arith)

  pub reorg-hash : 43 ≤ length bs → part 32 (drop 11 bs) (λ hash. got (check_reorg (number_at 2 bs) (Some hash))) ≡ got (check_reorg (number_at 2 bs) (Some (take 32 (drop 11 bs)))) (drop 43 bs)
  reorg-hash h = part_in 32 11 bs _ (omega arith)

  pub reorg-not : length bs < 11 → NotRead (read_reorg (drop 2 bs))
  unfolding read_reorg optional number
  reorg-not h = part-still 8 2 bs _ (byte-not 10 bs _ (λ g. absurd (omega arith)))

  pub reorg-cut : length bs < 43 → NotRead (part 32 (drop 11 bs) (λ hash. got (check_reorg (number_at 2 bs) (Some hash))))
  reorg-cut h = part-not 32 11 bs _ (λ g. absurd (omega arith))

  -- ---- a poll

  module _ (at : ℕ) (is : at ≡ list_end 8 30 bs) where
    pub poll-read : at < length bs → read_poll (drop 2 bs)
        ≡ by_flag (get_or bs at 0) (got (poll (take 20 (drop 2 bs)) (number_at 22 bs) (numbers_at 30 bs) None) (drop (at + 1) bs))
        (content (drop (at + 1) bs) (λ c. got (poll (take 20 (drop 2 bs)) (number_at 22 bs) (numbers_at 30 bs) (Some c))))
    unfolding read_poll optional number
    poll-read h =
        rw is
        (part_in 20 2 bs _ (omega (arith, is)) ∙ part_in 8 22 bs _ (omega (arith, is)) ∙ numbers-in 30 bs _ (omega (arith, is))
        ∙ byte-in (list_end 8 30 bs) bs _ (omega (arith, is)))

  pub poll-not : length bs ≤ list_end 8 30 bs → NotRead (read_poll (drop 2 bs))
  unfolding read_poll optional number
  poll-not h = part-still 20 2 bs _ (part-still 8 22 bs _ (numbers-not 30 bs _ (λ g. byte-not (list_end 8 30 bs) bs _ (λ f. absurd (omega arith)))))

  module _ (at : ℕ) (next : Content → Bytes → ReadCall) where
    pub content-in : (hashes_at end : ℕ) → hashes_at ≡ list_end 8 at bs → end ≡ list_end 1 hashes_at bs → end ≤ length bs →
        content (drop at bs) next ≡ next (record { nonces = numbers_at at bs; hashes = bytes_at 1 hashes_at bs }) (drop end bs)
    unfolding content
    content-in hashes_at end is es h = rw (es, is) (numbers-in at bs _ (omega (arith, is)) ∙ hashes-in (list_end 8 at bs) bs _ (rw (es, is) at h))

    pub content-not : (hashes_at : ℕ) → hashes_at ≡ list_end 8 at bs → length bs < list_end 1 hashes_at bs → NotRead (content (drop at bs) next)
    unfolding content
    content-not hashes_at is h = let g = rw is at h in numbers-not at bs _ (λ a. hashes-not (list_end 8 at bs) bs _ (λ b. absurd (omega arith)))

  -- ---- a guard

  -- all of it but its kind
  abbrev pub guard_at : ℕ → GuardKind → Guard
  guard_at contents_at kind = record { hash = take 32 (drop 3 bs); kind = kind; predecessors = numbers_at 35 bs; contents = bytes_at 1 contents_at bs }

  pub guard-read : 3 ≤ length bs → read_guard (drop 2 bs) ≡ guard_by (get_or bs 2 0) (drop 3 bs)
  unfolding read_guard
  guard-read h = byte-in 2 bs _ (omega arith)

  module _ (contents_at end : ℕ) (is : contents_at ≡ list_end 8 35 bs) (es : end ≡ list_end 1 contents_at bs) where
    inputs_in : (next : (GuardKind → Guard) → Bytes → ReadCall) → end ≤ length bs → guard_inputs (drop 3 bs) next ≡ next (guard_at contents_at) (drop end bs)
    unfolding guard_inputs
    inputs_in next h =
        rw (es, is)
        (part_in 32 3 bs _ (omega (arith, is)) ∙ numbers-in 35 bs _ (omega (arith, is)) ∙ hashes-in (list_end 8 35 bs) bs _ (rw (es, is) at h))

    inputs-not : (next : (GuardKind → Guard) → Bytes → ReadCall) → (end ≤ length bs → NotRead (next (guard_at contents_at) (drop end bs))) → NotRead (guard_inputs (drop 3 bs) next)
    unfolding guard_inputs
    inputs-not next f = part-still 32 3 bs _ (numbers-not 35 bs _ (λ a. hashes-not (list_end 8 35 bs) bs _ (λ b. rw (es, is) at (f (rw (es, is) b)))))

    pub guard-unhydratable : end ≤ length bs → guard_by 2 (drop 3 bs) ≡ got (guard (guard_at contents_at unhydratable)) (drop end bs)
    unfolding guard_by
    guard-unhydratable h = inputs_in _ h

    pub guard-reparked : end + 8 ≤ length bs → guard_by 1 (drop 3 bs) ≡ got (guard (guard_at contents_at (reparked (number_at end bs)))) (drop (end + 8) bs)
    unfolding guard_by number
    guard-reparked h = inputs_in _ (omega arith) ∙ part_in 8 end bs _ (omega arith)

    pub boundary-not : length bs < end + 8 → NotRead (guard_by 1 (drop 3 bs))
    unfolding guard_by number
    boundary-not h = inputs-not _ (λ a. part-not 8 end bs _ (λ b. absurd (omega arith)))

    pub guard-not : length bs < end → NotRead (read_guard (drop 2 bs))
    unfolding read_guard guard_by
    guard-not h = byte-not 2 bs _ (λ g. go (get_or bs 2 0))
      where
        go : (kind : ℕ) → NotRead (guard_by kind (drop 3 bs))
        go zero = tt
        go (suc zero) = inputs-not _ (λ a. absurd (omega arith))
        go (suc (suc zero)) = inputs-not _ (λ a. absurd (omega arith))
        go (suc (suc (suc n))) = tt

  pub guard-kind-not : (kind : ℕ) (rest : Bytes) → (kind ≡ 1 → ⊥) → (kind ≡ 2 → ⊥) → NotRead (guard_by kind rest)
  unfolding guard_by
  guard-kind-not zero rest a b = tt
  guard-kind-not (suc zero) rest a b = absurd (a refl)
  guard-kind-not (suc (suc zero)) rest a b = absurd (b refl)
  guard-kind-not (suc (suc (suc n))) rest a b = tt

-- ---- the mark

two : (bs : Bytes) (a b : ℕ) → 2 ≤ length bs → get_or bs 0 0 ≡ a → get_or bs 1 0 ≡ b → take 2 bs ≡ a ∷ b ∷ []
two [] a b h e f = absurd (omega arith)
two (x ∷ []) a b h e f = absurd (omega arith)
two (x ∷ y ∷ xs) a b h e f = rw (e, f)

miss : (a b letter : ℕ) → (a ≡ 67 → b ≡ letter → ⊥) → eq_bytes (a ∷ b ∷ []) (mark letter) ≡ false
unfolding eq_bytes
miss a b letter h = go (eqb a 67) refl (eqb b letter) refl
  where
    go : (s : Bool) → eqb a 67 ≡ s → (t : Bool) → eqb b letter ≡ t → (s && (t && true)) ≡ false
    go false p t q = refl
    go true p false q = refl
    go true p true q = absurd (h (eqb-true a 67 p) (eqb-true b letter q))

module _ (bs : Bytes) where
  mark-read : 2 ≤ length bs → read_call bs ≡ by_mark (take 2 bs) (drop 2 bs)
  unfolding read_call
  mark-read h = part_in 2 0 bs by_mark (omega arith)

  pub call-at : (letter : ℕ) → 2 ≤ length bs → get_or bs 0 0 ≡ 67 → get_or bs 1 0 ≡ letter → read_call bs ≡ by_mark (mark letter) (drop 2 bs)
  call-at letter h e f = mark-read h ∙ ap (λ (m : Bytes). by_mark m (drop 2 bs)) (two bs 67 letter h e f)

  cut-mark : length bs < 2 → NotRead (read_call bs)
  unfolding read_call
  cut-mark h = part-not 2 0 bs by_mark (λ g. absurd (omega arith))

  -- the bytes do not begin with C and this letter
  abbrev pub Other : ℕ → Type 0
  Other letter = 2 ≤ length bs → get_or bs 0 0 ≡ 67 → get_or bs 1 0 ≡ letter → ⊥

  pub no-mark : Other 80 → Other 81 → Other 71 → Other 69 → Other 82 → Other 70 → Other 86 → NotRead (read_call bs)
  unfolding by_mark
  no-mark p q g e r f v = go (ltb (length bs) 2) refl
    where
      go : (s : Bool) → ltb (length bs) 2 ≡ s → NotRead (read_call bs)
      go true t = cut-mark (ltb-true (length bs) 2 t)
      go false t =
          let h = ltb-false (length bs) 2 t in
          let a = get_or bs 0 0 in
          let b = get_or bs 1 0 in
          rw (mark-read h, two bs a b h refl refl, miss a b 80 (p h), miss a b 81 (q h), miss a b 71 (g h), miss a b 69 (e h), miss a b 82 (r h), miss a b 70 (f h), miss a b 86 (v h)) tt
