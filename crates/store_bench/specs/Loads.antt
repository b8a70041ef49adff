-- The stores that the loops run on, the calls that they make on them, and how many an answer tells of.
use Rattle.std.specs.Prelude.{ℕ, zero, suc, ◌+◌, ◌*◌, ◌%◌, ◌≡◌, Bool, true, false, cond, [], ◌∷◌, ltb, set, replicate}
use Rattle.std.specs.Prelude.{None, Some}
use Rattle.lists.specs.Bytes.{Bytes}
use Rattle.store_rules.specs.Frames.{Frame, mined, Guard, reparked}
use Rattle.store_rules.specs.Store.{Store, empty, Call, RowForm, long, push, poll, guard, enter_tentative, evict_sender, step}
use Rattle.store_rules.specs.Sweeps.{Sweep}
use Rattle.store_rules.specs.View.{Bodies, bodies_of, held_view}
use Rattle.store_rules.specs.declared.Held.{Held}
use Rattle.store_rules.specs.Answers.{Said, says_total, says_rows, says_recorded, says_entered, says_frames, says_dead, says_refused, said}

-- ---- frames

abbrev pub sender : Bytes
sender = replicate 20 1

abbrev pub hash_at : ℕ → Bytes
hash_at n = set (replicate 32 1) 0 n

-- document 01's frame F as the n-th, of this sender
abbrev pub frame_by : Bytes → ℕ → Frame
frame_by from n = record { hash = hash_at n; from = from; expected = 5; claim = 8; chain_id = 1; gas = 21000; ticket = n }

-- of the one sender
abbrev pub frame : ℕ → Frame
frame n = frame_by sender n

-- the n-th of senders with a frame each
abbrev pub sender_at : ℕ → Bytes
sender_at n = set (replicate 20 1) 0 n

-- whose the n-th frame is: a sender's of its own, or that of the one sender
abbrev pub whose : Bool → ℕ → Bytes
whose true n = sender_at n
whose false n = sender

-- ---- calls

-- a poll at head 5 that knows only 6 of the gap: every frame waits
abbrev pub waiting : Call
waiting = poll sender 5 (6 ∷ []) None

-- a poll at the claim: every frame is rescued
abbrev pub rescuing : Call
rescuing = poll sender 8 [] None

-- hashes of the gap's nonces, one after another
abbrev pub contents : Bytes
contents = replicate 96 7

-- the guard that holds the n-th frame back as long as the contents are these
abbrev pub guard_at : ℕ → Guard
guard_at n = record { hash = hash_at n; kind = reparked 5; predecessors = 5 ∷ 6 ∷ 7 ∷ []; contents = contents }

-- a poll that knows the whole gap and brings its contents
abbrev pub guarded : Call
guarded = poll sender 5 (5 ∷ 6 ∷ 7 ∷ []) (Some (record { nonces = 5 ∷ 6 ∷ 7 ∷ []; hashes = contents }))

-- the first frame is mined in block 100
abbrev pub mining : Call
mining = enter_tentative (hash_at 0) (record { kind = mined; block = 100; block_hash = replicate 32 3 })

-- every frame is evicted
abbrev pub evicting : Call
evicting = evict_sender sender

-- ---- stores

abbrev pub no_bodies : Bodies
no_bodies = bodies_of [] []

-- the held part alone, for calls that read no guard's body
abbrev pub alone : Held → Store
alone h = held_view no_bodies h

-- 1, 8 or 64, by whether a number is below 8, and below 64
abbrev pub size_of : Bool → Bool → ℕ
size_of true b = 1
size_of false true = 8
size_of false false = 64

-- the largest of 1, 8 and 64 that is not above the number, and 1 for 0
abbrev pub sized : ℕ → ℕ
sized n = size_of (ltb n 8) (ltb n 64)

-- the store after a call that takes no slice
abbrev pub after : Store → Call → Store
after s call = (step s (record { call = call; form = long; numbers = 0; bytes = 0 })).0

-- so many frames, each of a sender of its own, or all of one
unfoldable pub filled : Bool → ℕ → Store
filled apart zero = empty
filled apart (suc n) = after (filled apart n) (push (frame_by (whose apart n) n))

abbrev pub pushed : ℕ → Store
pushed n = filled false n

abbrev pub lone : ℕ → Store
lone n = filled true n

-- so many frames, each with its guard
unfoldable pub guarded_by : ℕ → Store
guarded_by zero = empty
guarded_by (suc n) = after (after (guarded_by n) (push (frame n))) (guard (guard_at n))

-- ---- 64 senders with a frame each

-- room for 64 addresses, with those of so many senders
unfoldable pub addresses : ℕ → Bytes
addresses zero = replicate 1280 1
addresses (suc n) = set (addresses n) (20 * n) n

-- at head 5, with only 6 of the gap known: every frame waits
abbrev pub sweeping : Sweep
sweeping = record { senders = addresses 64; heads = replicate 64 5; counts = replicate 64 1; nonces = replicate 64 6; numbers = 1216 }

-- ---- answers

-- the total, how many are listed, 1 for true; 0 for a guard or a refusal
abbrev pub counted : Said → ℕ
counted (says_total n) = n
counted (says_rows form n) = n
counted says_recorded = 0
counted (says_entered b _ _) = cond b 1 0
counted (says_frames n) = n
counted (says_dead n) = n
counted (says_refused n) = 0

-- how many a call with rows in this form, and with so much room for numbers and bytes, tells of
abbrev pub told_in : RowForm → Store → Call → ℕ → ℕ → ℕ
told_in form s call numbers bytes = counted (said form (step s (record { call = call; form = form; numbers = numbers; bytes = bytes })).1)

-- with long rows
abbrev pub told : Store → Call → ℕ → ℕ → ℕ
told = told_in long

-- polls of the 64 senders one after another, each lent room for a row: the store after so many of them, and how many rows they
-- told of in all
unfoldable pub polled_in_turn : ℕ → Store × ℕ
polled_in_turn zero = (lone 64, 0)
polled_in_turn (suc n) =
    let s = (polled_in_turn n).0 in
    let call = poll (sender_at (n % 64)) 5 (6 ∷ []) None in
    ((step s (record { call = call; form = long; numbers = 19; bytes = 0 })).0, (polled_in_turn n).1 + told s call 19 0)

-- such a call leads to this store, and tells of so many
pub record Goes (s : Store) (call : Call) (numbers bytes : ℕ) (t : Store) (n : ℕ) : Type 0 where
  pub store : (step s (record { call = call; form = long; numbers = numbers; bytes = bytes })).0 ≡ t
  pub seen : told s call numbers bytes ≡ n

-- a round that finds the store, as the view has it, to be s tells of n, and leaves the store so
abbrev pub Repeats : {S : Type 0} → (S → Store) → Store → ℕ → S → ℕ → S → Type 0
Repeats view s n before seen after = view before ≡ s → (seen ≡ n) × (view after ≡ s)
