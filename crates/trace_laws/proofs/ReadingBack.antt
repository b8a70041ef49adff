-- `reads-back`: a trace that is written from calls is read as these calls.
use Prim.Native.Nat.{ℕ, ◌+◌, ◌*◌, ◌<◌, ◌^◌}
use native.Mathlib.Omega.{arith}
use mathlib.Core.Path.{◌≡◌, refl, ◌∙◌}
use mathlib.Core.Bool.{true}
use mathlib.Core.List.{List, [], ◌∷◌, ◌++◌, append_assoc, map}
use Rattle.std.specs.Prelude.{None, Some}
use lib.ListN.{length}
use lib.Seq.{take_at, drop_at}
use Rattle.lists.specs.Bytes.{Bytes, eq_bytes}
use Rattle.lists.specs.Lists.{Each, collect, chunks}
use Rattle.lists.proofs.Keeping.{each_of}
use Rattle.lists.proofs.Writing.{collect-length}
use Rattle.wire.specs.Numbers.{num, digits}
use Rattle.wire.proofs.NumberLaws.{length_digits, num-digits}
use Rattle.store_rules.specs.Frames.{ConsumedKind, mined, taken, taken_by, Consumed, GuardKind, reparked, unhydratable, Guard}
use Rattle.store_rules.specs.Answers.{kind_number}
use Rattle.store_rules.specs.Store.{Call, push, poll, guard, enter_tentative, check_reorg, check_finalized, evict_sender}
use Rattle.trace_format.specs.Reading.{Read, got, ReadCall, part, byte, number, list, numbers, hashes, by_flag, optional, content, read_push, read_poll, guard_inputs, guard_by, read_guard, block_inputs, enter_by, read_enter, read_reorg, read_final, read_evict, mark_p, mark_q, mark_g, mark_e, mark_r, mark_f, mark_v, by_mark, read_call}
use Rattle.trace_format.specs.Writing.{numbers_written, hashes_written, optional_written, content_written, guard_number, boundary_written, taker_written, write_call, Long, NumberFits, CountFits, NumbersFit, OptionFits, ContentFits, GuardKindFits, KindFits, Fits}
use Rattle.trace_format.proofs.Standing.{part-front}
use Rattle.trace_laws.specs.Laws.{ReadsBack}
use Rattle.trace_format.proofs.Calls.{ReadAs, read_none, read-call, read_whole}

-- ---- the parts of a call

collected-back : (l : List ℕ) → Each NumberFits l → map num (chunks 8 (length l) (collect (digits 8) l)) ≡ l
unfolding collect chunks
collected-back [] h = refl
collected-back (n ∷ l) h =
    rw (take_at (digits 8 n) (collect (digits 8) l) 8 (length_digits 8 n), drop_at (digits 8 n) (collect (digits 8) l) 8 (length_digits 8 n), num-digits 8 n h.0, collected-back l h.1)

module _ {A : Type 0} where
  -- what is written is read, and the bytes behind it are left
  abbrev Back : {B : Type 0} → (B → Type 0) → (B → Bytes) → (Bytes → (B → Bytes → Read A) → Read A) → Type 0
  Back {B} fits write p = (v : B) (rest : Bytes) (next : B → Bytes → Read A) → fits v → p (write v ++ rest) next ≡ next v rest

  byte-back : (n : ℕ) (rest : Bytes) (next : ℕ → Bytes → Read A) → byte (n ∷ rest) next ≡ next n rest
  unfolding byte num
  byte-back n rest next = let e : n + 256 * 0 ≡ n = omega arith in part-front 1 (n ∷ []) rest _ refl ∙ rw e

  number-back : Back NumberFits (digits 8) number
  unfolding number
  number-back n rest next h = part-front 8 (digits 8 n) rest _ (length_digits 8 n) ∙ rw (num-digits 8 n h)

  list_back : (width count : ℕ) (bs rest : Bytes) (next : ℕ → Bytes → Bytes → Read A) → count < 256 ^ 2 → length bs ≡ width * count →
      list width (digits 2 count ++ bs ++ rest) next ≡ next count bs rest
  unfolding list
  list_back width count bs rest next h e =
      rw append_assoc (part-front 2 (digits 2 count) (bs ++ rest) _ (length_digits 2 count) ∙ rw (num-digits 2 count h) (part-front (width * count) bs rest _ e))

  numbers-back : Back NumbersFit numbers_written numbers
  unfolding numbers numbers_written
  numbers-back l rest next h = list_back 8 (length l) (collect (digits 8) l) rest _ h.0 (collect-length (digits 8) 8 l (each_of _ l (λ n m. length_digits 8 n))) ∙ rw (collected-back l h.1)

  hashes-back : Back CountFits hashes_written hashes
  unfolding hashes hashes_written
  hashes-back bs rest next h = list_back 1 (length bs) bs rest _ h (omega arith)

  content-back : Back ContentFits content_written content
  unfolding content content_written
  content-back c rest next h = rw append_assoc (numbers-back c.nonces _ _ h.0 ∙ hashes-back c.hashes rest _ h.1)

  optional-back : {B : Type 0} (fits : B → Type 0) (write : B → Bytes) (value : Bytes → (B → Bytes → Read A) → Read A) → Back fits write value →
      Back (OptionFits fits) (optional_written write) (optional value)
  unfolding optional optional_written by_flag
  optional-back fits write value b None rest next h = byte-back 0 rest _
  optional-back fits write value b (Some v) rest next h = byte-back 1 (write v ++ rest) _ ∙ b v rest _ h

-- ---- the seven calls

-- all of a guard but its kind
guard-inputs-back : (g : Guard) (rest : Bytes) (next : (GuardKind → Guard) → Bytes → ReadCall) →
    Long 32 g.hash → NumbersFit g.predecessors → CountFits g.contents →
    guard_inputs (g.hash ++ (numbers_written g.predecessors ++ (hashes_written g.contents ++ rest))) next
    ≡ next (λ kind. record { hash = g.hash; kind = kind; predecessors = g.predecessors; contents = g.contents }) rest
unfolding guard_inputs
guard-inputs-back g rest next h n c = part-front 32 g.hash _ _ h ∙ numbers-back g.predecessors _ _ n ∙ hashes-back g.contents rest _ c

block-inputs-back : (c : Consumed) (rest : Bytes) (next : (ConsumedKind → Consumed) → Bytes → ReadCall) → NumberFits c.block → Long 32 c.block_hash →
    block_inputs (digits 8 c.block ++ (c.block_hash ++ rest)) next ≡ next (λ kind. record { kind = kind; block = c.block; block_hash = c.block_hash }) rest
unfolding block_inputs
block-inputs-back c rest next n h = number-back c.block _ _ n ∙ part-front 32 c.block_hash rest _ h

call_back : (c : Call) (rest : Bytes) → Fits c → read_call (write_call c ++ rest) ≡ got c rest
unfolding read_call by_mark eq_bytes write_call read_push read_poll read_guard read_enter read_reorg read_final read_evict guard_by guard_number boundary_written enter_by kind_number taker_written
call_back (push f) rest h =
    simp append_assoc
    (part-front 2 mark_p _ _ refl ∙ part-front 32 f.hash _ _ h.0 ∙ part-front 20 f.from _ _ h.1
    ∙ number-back f.expected _ _ h.2 ∙ number-back f.claim _ _ h.3 ∙ number-back f.chain_id _ _ h.4 ∙ number-back f.gas _ _ h.5
    ∙ number-back f.ticket rest _ h.6)
call_back (poll sender head known c) rest h =
    simp append_assoc
    (part-front 2 mark_q _ _ refl ∙ part-front 20 sender _ _ h.0 ∙ number-back head _ _ h.1 ∙ numbers-back known _ _ h.2
    ∙ optional-back ContentFits content_written content content-back c rest _ h.3)
call_back (guard g) rest h = simp append_assoc (part-front 2 mark_g _ _ refl ∙ byte-back (guard_number g.kind) _ _ ∙ go g.kind h.0)
  where
    go : (kind : GuardKind) → GuardKindFits kind →
        guard_by (guard_number kind) (g.hash ++ (numbers_written g.predecessors ++ (hashes_written g.contents ++ (boundary_written kind ++ rest))))
        ≡ got (guard (record { hash = g.hash; kind = kind; predecessors = g.predecessors; contents = g.contents })) rest
    go (reparked boundary) b = guard-inputs-back g _ _ h.1 h.2 h.3 ∙ number-back boundary rest _ b
    go unhydratable b = guard-inputs-back g rest _ h.1 h.2 h.3
call_back (enter_tentative hash c) rest h =
    simp append_assoc (part-front 2 mark_e _ _ refl ∙ part-front 32 hash _ _ h.0 ∙ byte-back (kind_number c.kind) _ _ ∙ go c.kind h.1)
  where
    go : (kind : ConsumedKind) → KindFits kind →
        enter_by (kind_number kind) hash (digits 8 c.block ++ (c.block_hash ++ (taker_written kind ++ rest)))
        ≡ got (enter_tentative hash (record { kind = kind; block = c.block; block_hash = c.block_hash })) rest
    go mined k = block-inputs-back c rest _ h.2 h.3
    go taken k = block-inputs-back c rest _ h.2 h.3
    go (taken_by taker) k = block-inputs-back c _ _ h.2 h.3 ∙ part-front 32 taker rest _ k
call_back (check_reorg block hash) rest h =
    simp append_assoc
    (part-front 2 mark_r _ _ refl ∙ number-back block _ _ h.0 ∙ optional-back (Long 32) (λ b. b) (part 32) (part-front 32) hash rest _ h.1)
call_back (check_finalized n) rest h = part-front 2 mark_f _ _ refl ∙ number-back n rest _ h
call_back (evict_sender sender) rest h = part-front 2 mark_v _ _ refl ∙ part-front 20 sender rest _ h

-- ---- a list of calls

calls_back : (cs : List Call) → Each Fits cs → ReadAs (collect write_call cs) (record { calls = cs; whole = true })
unfolding collect
calls_back [] h = read_none
calls_back (c ∷ cs) h = read-call _ _ c _ (call_back c (collect write_call cs) h.0) (calls_back cs h.1)

pub reads-back : ReadsBack
reads-back cs h short = read_whole (collect write_call cs) _ short (calls_back cs h)
