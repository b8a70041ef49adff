-- How one call is read from the bytes that begin with it (request 2027-06): a mark, and then the call's inputs in document 01's
-- order and widths, little-endian.
use Rattle.std.specs.Prelude.{ℕ, zero, suc, ◌*◌, cond, List, [], ◌∷◌, map, leb, length, take, drop}
use Rattle.std.specs.Prelude.{Option, None, Some}
use Rattle.lists.specs.Bytes.{Bytes, eq_bytes}
use Rattle.lists.specs.Lists.{chunks}
use Rattle.wire.specs.Numbers.{num}
use Rattle.store_rules.specs.Frames.{mined, taken, taken_by, ConsumedKind, Consumed, GuardKind, reparked, unhydratable, Guard}
use Rattle.store_rules.specs.Poll.{Content}
use Rattle.store_rules.specs.Store.{Call, push, poll, guard, enter_tentative, check_reorg, check_finalized, evict_sender}

-- ---- what comes of reading

pub data Read (A : Type 0) : Type 0 where
  -- what was read, and the bytes behind it
  got : A → Bytes → Read A
  -- the bytes end first
  cut_short : Read A
  -- an unknown mark, or a byte that may not stand in its place
  bad : Read A

-- ---- the parts of a call: each is read, and then what follows, which is given the part and the bytes behind it

module _ {A : Type 0} where
  -- so many bytes
  unfoldable pub part : ℕ → Bytes → (Bytes → Bytes → Read A) → Read A
  part n bs next = cond (leb n (length bs)) (next (take n bs) (drop n bs)) cut_short

  unfoldable pub byte : Bytes → (ℕ → Bytes → Read A) → Read A
  byte bs next = part 1 bs (λ b. next (num b))

  unfoldable pub number : Bytes → (ℕ → Bytes → Read A) → Read A
  number bs next = part 8 bs (λ b. next (num b))

  -- a list, with so many bytes an element, is led by its count, of two bytes
  unfoldable pub list : ℕ → Bytes → (ℕ → Bytes → Bytes → Read A) → Read A
  list width bs next = part 2 bs (λ b rest. part (width * num b) rest (next (num b)))

  unfoldable pub numbers : Bytes → (List ℕ → Bytes → Read A) → Read A
  numbers bs next = list 8 bs (λ count b. next (map num (chunks 8 count b)))

  -- the count of hashes is that of their bytes
  unfoldable pub hashes : Bytes → (Bytes → Bytes → Read A) → Read A
  hashes bs next = list 1 bs (λ count. next)

  -- by the byte that leads an optional value: 0 if it is absent, 1 if it follows
  unfoldable pub by_flag : ℕ → Read A → Read A → Read A
  by_flag zero absent present = absent
  by_flag (suc zero) absent present = present
  by_flag (suc (suc n)) absent present = bad

  -- an optional value, which is read so where it is present
  unfoldable pub optional : {B : Type 0} → (Bytes → (B → Bytes → Read A) → Read A) → Bytes → (Option B → Bytes → Read A) → Read A
  optional value bs next = byte bs (λ flag rest. by_flag flag (next None rest) (value rest (λ v. next (Some v))))

  -- the content of a poll: nonces, then hashes
  unfoldable pub content : Bytes → (Content → Bytes → Read A) → Read A
  content bs next = numbers bs (λ n bs. hashes bs (λ h. next (record { nonces = n; hashes = h })))

-- ---- the seven calls, each from behind its mark

abbrev pub ReadCall : Type 0
ReadCall = Read Call

unfoldable pub read_push : Bytes → ReadCall
read_push bs =
    part 32 bs (λ hash bs. part 20 bs (λ from bs.
    number bs (λ expected bs. number bs (λ claim bs. number bs (λ chain_id bs. number bs (λ gas bs. number bs (λ ticket bs.
    got (push (record { hash = hash; from = from; expected = expected; claim = claim; chain_id = chain_id; gas = gas; ticket = ticket })) bs)))))))

unfoldable pub read_poll : Bytes → ReadCall
read_poll bs = part 20 bs (λ sender bs. number bs (λ head bs. numbers bs (λ known bs. optional content bs (λ c. got (poll sender head known c)))))

-- all of a guard but its kind
unfoldable pub guard_inputs : Bytes → ((GuardKind → Guard) → Bytes → ReadCall) → ReadCall
guard_inputs bs next =
    part 32 bs (λ hash bs. numbers bs (λ predecessors bs. hashes bs (λ contents bs.
    next (λ kind. record { hash = hash; kind = kind; predecessors = predecessors; contents = contents }) bs)))

-- by its kind: 1 is Reparked, whose boundary comes last, 2 is Unhydratable
unfoldable pub guard_by : ℕ → Bytes → ReadCall
guard_by zero bs = bad
guard_by (suc zero) bs = guard_inputs bs (λ g bs. number bs (λ boundary. got (guard (g (reparked boundary)))))
guard_by (suc (suc zero)) bs = guard_inputs bs (λ g. got (guard (g unhydratable)))
guard_by (suc (suc (suc n))) bs = bad

unfoldable pub read_guard : Bytes → ReadCall
read_guard bs = byte bs guard_by

-- the block of a consumption, and its hash
unfoldable pub block_inputs : Bytes → ((ConsumedKind → Consumed) → Bytes → ReadCall) → ReadCall
block_inputs bs next =
    number bs (λ block bs. part 32 bs (λ block_hash bs. next (λ kind. record { kind = kind; block = block; block_hash = block_hash }) bs))

-- by document 01's kind; only of kind 3 the taker follows
unfoldable pub enter_by : ℕ → Bytes → Bytes → ReadCall
enter_by zero hash bs = bad
enter_by (suc zero) hash bs = block_inputs bs (λ c. got (enter_tentative hash (c mined)))
enter_by (suc (suc zero)) hash bs = block_inputs bs (λ c. got (enter_tentative hash (c taken)))
enter_by (suc (suc (suc zero))) hash bs = block_inputs bs (λ c bs. part 32 bs (λ taker. got (enter_tentative hash (c (taken_by taker)))))
enter_by (suc (suc (suc (suc n)))) hash bs = bad

unfoldable pub read_enter : Bytes → ReadCall
read_enter bs = part 32 bs (λ hash bs. byte bs (λ kind. enter_by kind hash))

unfoldable pub read_reorg : Bytes → ReadCall
read_reorg bs = number bs (λ block bs. optional (part 32) bs (λ hash. got (check_reorg block hash)))

unfoldable pub read_final : Bytes → ReadCall
read_final bs = number bs (λ n. got (check_finalized n))

unfoldable pub read_evict : Bytes → ReadCall
read_evict bs = part 20 bs (λ sender. got (evict_sender sender))

-- ---- the marks: C and a letter, in ASCII

abbrev pub mark : ℕ → Bytes
mark letter = 67 ∷ letter ∷ []

abbrev pub mark_p : Bytes
mark_p = mark 80

abbrev pub mark_q : Bytes
mark_q = mark 81

abbrev pub mark_g : Bytes
mark_g = mark 71

abbrev pub mark_e : Bytes
mark_e = mark 69

abbrev pub mark_r : Bytes
mark_r = mark 82

abbrev pub mark_f : Bytes
mark_f = mark 70

abbrev pub mark_v : Bytes
mark_v = mark 86

unfoldable pub by_mark : Bytes → Bytes → ReadCall
by_mark m bs =
    cond (eq_bytes m mark_p) (read_push bs)
    (cond (eq_bytes m mark_q) (read_poll bs)
    (cond (eq_bytes m mark_g) (read_guard bs)
    (cond (eq_bytes m mark_e) (read_enter bs)
    (cond (eq_bytes m mark_r) (read_reorg bs)
    (cond (eq_bytes m mark_f) (read_final bs)
    (cond (eq_bytes m mark_v) (read_evict bs) bad))))))

-- the call that the bytes begin with
unfoldable pub read_call : Bytes → ReadCall
read_call bs = part 2 bs by_mark
