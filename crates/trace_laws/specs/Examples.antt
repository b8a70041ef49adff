-- Traces of document 01's frame F, byte by byte, what each is read as, and its totals.
use Rattle.std.specs.Prelude.{ℕ, ◌≡◌, true, false, [], ◌∷◌, ◌++◌, take, replicate}
use Rattle.std.specs.Prelude.{None}
use Rattle.lists.specs.Bytes.{Bytes}
use Rattle.store_rules.specs.Frames.{Frame, taken, unhydratable}
use Rattle.store_rules.specs.Store.{empty, push, poll, guard, enter_tentative}
use Rattle.trace_format.specs.Traces.{read_trace, lines, end_store, trace_totals}

-- a number below 256, as eight bytes
unfoldable pub eight : ℕ → Bytes
eight n = n ∷ replicate 7 0

-- so many bytes that are alike
abbrev pub address : Bytes
address = replicate 20 1

abbrev pub hash : Bytes
hash = replicate 32 7

unfoldable pub frame_f : Frame
frame_f = record { hash = hash; from = address; expected = 5; claim = 8; chain_id = 1; gas = 21000; ticket = 3 }

-- CP, of F with this claim: a gas of 21,000 is 8 and 82 times 256
unfoldable pub push_claiming : ℕ → Bytes
push_claiming claim = 67 ∷ 80 ∷ hash ++ address ++ eight 5 ++ eight claim ++ eight 1 ++ (8 ∷ 82 ∷ replicate 6 0) ++ eight 3

abbrev pub push_f : Bytes
push_f = push_claiming 8

-- CQ, at head 8: no nonce known, no content
unfoldable pub poll_f : Bytes
poll_f = 67 ∷ 81 ∷ address ++ eight 8 ++ (0 ∷ 0 ∷ 0 ∷ [])

-- CE, of F in block 100, by its kind
unfoldable pub enter_f : ℕ → Bytes
enter_f kind = 67 ∷ 69 ∷ hash ++ (kind ∷ eight 100) ++ replicate 32 9

-- CG, of F: kind 2, a predecessor, 7, and a hash, which is 32 bytes
unfoldable pub guard_f : Bytes
guard_f = 67 ∷ 71 ∷ 2 ∷ hash ++ (1 ∷ 0 ∷ eight 7) ++ (32 ∷ 0 ∷ replicate 32 9)

-- CR, of block 100, by the byte that leads its hash
unfoldable pub reorg_f : ℕ → Bytes
reorg_f flag = 67 ∷ 82 ∷ eight 100 ++ (flag ∷ [])

-- CF, of block 100
unfoldable pub final_f : Bytes
final_f = 67 ∷ 70 ∷ eight 100

-- CV, of F's sender
unfoldable pub evict_f : Bytes
evict_f = 67 ∷ 86 ∷ address

pub record Examples : Type 0 where
  -- F is pushed, and rescued at head 8
  pub rescued : read_trace (push_f ++ poll_f) ≡ record { calls = push frame_f ∷ poll address 8 [] None ∷ []; whole = true }
  pub rescued_lines : lines (read_trace (push_f ++ poll_f)) ≡ 0 ∷ 0 ∷ []
  pub rescued_store : end_store (read_trace (push_f ++ poll_f)) ≡ empty
  -- the second call is a byte short: the first was run
  pub cut : lines (read_trace (push_f ++ take 32 poll_f)) ≡ 0 ∷ 19 ∷ []
  -- a list's count is that of its numbers, and of hashes that of their bytes
  pub guarded : read_trace guard_f
      ≡ record { calls = guard (record { hash = hash; kind = unhydratable; predecessors = 7 ∷ []; contents = replicate 32 9 }) ∷ []; whole = true }
  -- a taker stands only after kind 3: after kind 2 its 32 bytes are no call
  pub taken_only : read_trace (enter_f 2 ++ replicate 32 6)
      ≡ record { calls = enter_tentative hash (record { kind = taken; block = 100; block_hash = replicate 32 9 }) ∷ []; whole = false }
  pub kind_four : lines (read_trace (enter_f 4 ++ replicate 32 6)) ≡ 19 ∷ []
  -- an optional byte above 1
  pub flag_two : lines (read_trace (reorg_f 2 ++ replicate 32 9)) ≡ 19 ∷ []
  -- CX
  pub unknown_mark : lines (read_trace (67 ∷ 88 ∷ [])) ≡ 19 ∷ []
  pub nothing : lines (read_trace []) ≡ []
  -- the totals, of a frame that is rescued and of no call
  pub rescued_totals : trace_totals (read_trace (push_f ++ poll_f)) ≡ record { accepted = 1; held = 0; rescued = 1; dead = 0; evicted = 0 }
  pub nothing_totals : trace_totals (read_trace []) ≡ record { accepted = 0; held = 0; rescued = 0; dead = 0; evicted = 0 }
  -- a frame that is pushed twice is accepted twice
  pub twice_totals : trace_totals (read_trace (push_f ++ push_f ++ evict_f)) ≡ record { accepted = 2; held = 0; rescued = 0; dead = 0; evicted = 2 }
  -- and one that is rescued may be pushed again
  pub again_totals : trace_totals (read_trace (push_f ++ poll_f ++ push_f)) ≡ record { accepted = 2; held = 1; rescued = 1; dead = 0; evicted = 0 }
  -- entered, F stays though a reorganisation lists it, and is dead when its block is final
  pub reorganised_totals : trace_totals (read_trace (push_f ++ enter_f 2 ++ reorg_f 0)) ≡ record { accepted = 1; held = 1; rescued = 0; dead = 0; evicted = 0 }
  pub dead_totals : trace_totals (read_trace (push_f ++ enter_f 2 ++ final_f)) ≡ record { accepted = 1; held = 0; rescued = 0; dead = 1; evicted = 0 }
  -- a claim of 30 leaves a gap of 25: the push is refused
  pub refused_totals : trace_totals (read_trace (push_claiming 30)) ≡ record { accepted = 0; held = 0; rescued = 0; dead = 0; evicted = 0 }
