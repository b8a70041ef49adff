-- What a call gives does not hang on slices that it takes none of, nor on the numbers past the limit of a list that is too long.
use Prim.Native.Nat.{ℕ, ◌<◌}
use native.Mathlib.Omega.{arith}
use mathlib.Core.Path.{◌≡◌, refl, ap}
use mathlib.Core.Bool.{Bool, true, false}
use mathlib.Core.List.{List, [], ◌∷◌}
use Rattle.std.specs.Prelude.{Option, Some}
use lib.Dec.{ltb}
use lib.ListN.{length, take, length-take}
use lib.Seq.{take_all}
use borrow.Author.Tests.{lt-ltb, ltb-true, ltb-false}
use Rattle.lists.specs.Bytes.{Bytes}
use Rattle.lists.specs.Lists.{written}
use Rattle.store_rules.specs.Frames.{GuardKind}
use Rattle.store_rules.specs.Poll.{Content}
use Rattle.store_rules.specs.Store.{Store, Call, push, poll, guard, enter_tentative, check_reorg, check_finalized, evict_sender, RowForm, Answer, step, refusal, input_refusal, room_refusal, bad_content, when, unless}
use Rattle.store_rules.specs.Answers.{Said, numbers_of, bytes_of}
use Rattle.answers.specs.Promises.{Gives, asked, Steps}

-- ---- slices that a call takes none of

-- a list that leaves an empty slice as it is leaves every slice so
nothing_written : (l out : List ℕ) → [] ≡ written l [] → out ≡ written l out
nothing_written [] out e = refl
nothing_written (x ∷ xs) out e = let z : ◌≡◌ {A = ℕ} 0 1 = cc in absurd (omega arith)

module _ {S : Type 0} (view : S → Store) (form : RowForm) (q : S) (done : Store × Answer) (a : Said) (q' : S) where
  more_bytes : (numbers numbers' bytes : List ℕ) → Gives view form q done numbers [] a q' numbers' [] → Gives view form q done numbers bytes a q' numbers' bytes
  more_bytes numbers numbers' bytes g =
      record { store = g.store; answer = g.answer; numbers_after = g.numbers_after; bytes_after = nothing_written (bytes_of done.1) bytes g.bytes_after; kept = g.kept }

  more_numbers : (numbers bytes bytes' : List ℕ) → Gives view form q done [] bytes a q' [] bytes' → Gives view form q done numbers bytes a q' numbers bytes'
  more_numbers numbers bytes bytes' g =
      record { store = g.store; answer = g.answer; numbers_after = nothing_written (numbers_of form done.1) numbers g.numbers_after; bytes_after = g.bytes_after; kept = g.kept }

-- finality alone takes bytes
abbrev pub NoBytes : Call → Type 0
NoBytes (push f) = Unit {0}
NoBytes (poll a head known content) = Unit {0}
NoBytes (guard g) = Unit {0}
NoBytes (enter_tentative h c) = Unit {0}
NoBytes (check_reorg b canonical) = Unit {0}
NoBytes (check_finalized n) = ⊥
NoBytes (evict_sender a) = Unit {0}

-- a push, a guard and an entering take no numbers either
abbrev pub NoSlice : Call → Type 0
NoSlice (push f) = Unit {0}
NoSlice (poll a head known content) = ⊥
NoSlice (guard g) = Unit {0}
NoSlice (enter_tentative h c) = Unit {0}
NoSlice (check_reorg b canonical) = ⊥
NoSlice (check_finalized n) = ⊥
NoSlice (evict_sender a) = ⊥

module _ (s : Store) (form : RowForm) where
  same_bytes : (c : Call) (numbers bytes : List ℕ) → NoBytes c → step s (asked form c numbers []) ≡ step s (asked form c numbers bytes)
  unfolding step refusal room_refusal
  same_bytes (push f) numbers bytes h = refl
  same_bytes (poll a head known content) numbers bytes h = refl
  same_bytes (guard g) numbers bytes h = refl
  same_bytes (enter_tentative x c) numbers bytes h = refl
  same_bytes (check_reorg b canonical) numbers bytes h = refl
  same_bytes (check_finalized n) numbers bytes h = absurd h
  same_bytes (evict_sender a) numbers bytes h = refl

  same-slice : (c : Call) (numbers bytes : List ℕ) → NoSlice c → step s (asked form c [] []) ≡ step s (asked form c numbers bytes)
  unfolding step refusal room_refusal
  same-slice (push f) numbers bytes h = refl
  same-slice (poll a head known content) numbers bytes h = absurd h
  same-slice (guard g) numbers bytes h = refl
  same-slice (enter_tentative x c) numbers bytes h = refl
  same-slice (check_reorg b canonical) numbers bytes h = absurd h
  same-slice (check_finalized n) numbers bytes h = absurd h
  same-slice (evict_sender a) numbers bytes h = absurd h

module _ {S : Type 0} (view : S → Store) (form : RowForm) (q : S) (c : Call) (a : Said) (q' : S) where
  pub any-bytes : (numbers numbers' bytes : List ℕ) → NoBytes c → Steps view form q c numbers [] a q' numbers' [] → Steps view form q c numbers bytes a q' numbers' bytes
  any-bytes numbers numbers' bytes h g = rw (← same_bytes (view q) form c numbers bytes h) (more_bytes view form q _ a q' numbers numbers' bytes g)

  pub any_slice : (numbers bytes : List ℕ) → NoSlice c → Steps view form q c [] [] a q' [] [] → Steps view form q c numbers bytes a q' numbers bytes
  any_slice numbers bytes h g =
      rw (← same-slice (view q) form c numbers bytes h)
      (more_bytes view form q _ a q' numbers numbers bytes (more_numbers view form q _ a q' numbers [] [] g))

-- ---- a list that is too long: its number decides

module _ (most room : ℕ) (l : List ℕ) (h : most < room) where
  over : ltb most (length l) ≡ true → ltb most (length (take room l)) ≡ true
  over e = lt-ltb most (length (take room l)) (rw (length-take room l) (omega (arith, ltb-true most (length l) e)))

  not-over : ltb most (length l) ≡ false → take room l ≡ l
  not-over e = take_all room l (omega (arith, ltb-false most (length l) e))

module _ (s : Store) (form : RowForm) (numbers bytes : List ℕ) where
  pub known_kept : (a : Bytes) (head : ℕ) (known : List ℕ) (content : Option Content) →
      step s (asked form (poll a head (take 257 known) content) numbers bytes) ≡ step s (asked form (poll a head known content) numbers bytes)
  unfolding step refusal input_refusal when unless
  known_kept a head known content = go (ltb 256 (length known)) refl
    where
      go : (b : Bool) → ltb 256 (length known) ≡ b → step s (asked form (poll a head (take 257 known) content) numbers bytes) ≡ step s (asked form (poll a head known content) numbers bytes)
      go true e = rw (over 256 257 known (omega arith) e, e)
      go false e = ap (λ (l : List ℕ). step s (asked form (poll a head l content) numbers bytes)) (not-over 256 257 known (omega arith) e)

  pub nonces-kept : (a : Bytes) (head : ℕ) (known nonces : List ℕ) (hashes : Bytes) →
      step s (asked form (poll a head known (Some (record { nonces = take 65 nonces; hashes = hashes }))) numbers bytes)
      ≡ step s (asked form (poll a head known (Some (record { nonces = nonces; hashes = hashes }))) numbers bytes)
  unfolding step refusal input_refusal bad_content when unless
  nonces-kept a head known nonces hashes = go (ltb 64 (length nonces)) refl (ltb 256 (length known)) refl
    where
      go : (b : Bool) → ltb 64 (length nonces) ≡ b → (d : Bool) → ltb 256 (length known) ≡ d →
          step s (asked form (poll a head known (Some (record { nonces = take 65 nonces; hashes = hashes }))) numbers bytes)
          ≡ step s (asked form (poll a head known (Some (record { nonces = nonces; hashes = hashes }))) numbers bytes)
      go true e true f = rw f
      go true e false f = rw (f, over 64 65 nonces (omega arith) e, e)
      go false e d f = ap (λ (l : List ℕ). step s (asked form (poll a head known (Some (record { nonces = l; hashes = hashes }))) numbers bytes)) (not-over 64 65 nonces (omega arith) e)

  pub predecessors-kept : (hash : Bytes) (kind : GuardKind) (preds : List ℕ) (contents : Bytes) →
      step s (asked form (guard (record { hash = hash; kind = kind; predecessors = take 17 preds; contents = contents })) numbers bytes)
      ≡ step s (asked form (guard (record { hash = hash; kind = kind; predecessors = preds; contents = contents })) numbers bytes)
  unfolding step refusal input_refusal when unless
  predecessors-kept hash kind preds contents = go (ltb 16 (length preds)) refl
    where
      go : (b : Bool) → ltb 16 (length preds) ≡ b →
          step s (asked form (guard (record { hash = hash; kind = kind; predecessors = take 17 preds; contents = contents })) numbers bytes)
          ≡ step s (asked form (guard (record { hash = hash; kind = kind; predecessors = preds; contents = contents })) numbers bytes)
      go true e = rw (over 16 17 preds (omega arith) e, e)
      go false e = ap (λ (l : List ℕ). step s (asked form (guard (record { hash = hash; kind = kind; predecessors = l; contents = contents })) numbers bytes)) (not-over 16 17 preds (omega arith) e)
