-- None of the order rule's premises is idle: for each, and for each refusal about room, two lists that satisfy the others and
-- leave different stores. And two different lists that satisfy all of them, with two senders, a reorganisation between, and a
-- sweep in one list for polls in the other.
use Rattle.std.specs.Prelude.{ℕ, zero, suc, ◌*◌, ◌≡◌, List, [], ◌∷◌, ◌++◌, map, length, replicate}
use Rattle.std.specs.Prelude.{None}
use Rattle.lists.specs.Bytes.{Bytes}
use Rattle.lists.specs.Lists.{keep, collect}
use Rattle.store_rules.specs.Frames.{Frame, mined, reparked}
use Rattle.store_rules.specs.Store.{Store, empty, SameStore, Call, RowForm, long, short, push, poll, guard, enter_tentative, check_reorg, check_finalized, evict_sender, Answer, refused}
use Rattle.store_rules.specs.Sweeps.{Item, single, sweep, step_item, run_items}
use Rattle.order_rule.specs.Orders.{Key, sender, owner_in, key_by, OneSender, of_key, TwoOrders, about_room, calls_read, transcript_read, RoomFor}

-- ---- what is said of two lists

abbrev pub InTwoOrders : List Item → List Item → Type 0
InTwoOrders xs ys = TwoOrders (key_by (owner_in (calls_read xs))) (calls_read xs) (calls_read ys)

abbrev pub BothHaveRoom : List Item → List Item → Type 0
BothHaveRoom xs ys = RoomFor empty xs × RoomFor empty ys

-- the calls of this key are the same, in the same order, wherever they stand
abbrev pub SameOf : Key → List Item → List Item → Type 0
SameOf k xs ys = of_key (key_by (owner_in (calls_read xs))) k (calls_read xs) ≡ of_key (key_by (owner_in (calls_read xs))) k (calls_read ys)

-- what the calls and sweeps of a run answer
unfoldable pub answers_of : Store → List Item → List Answer
answers_of s [] = []
answers_of s (x ∷ xs) = (step_item s x).1 ∷ answers_of (step_item s x).0 xs

-- nothing of the first run is refused for want of room, and of the second only one call or sweep, with this number
abbrev pub OnlySecondRefused : ℕ → List Item → List Item → Type 0
OnlySecondRefused n xs ys = RoomFor empty xs × (keep about_room (answers_of empty ys) ≡ refused n ∷ [])

abbrev pub StoresDiffer : List Item → List Item → Type 0
StoresDiffer xs ys = SameStore (run_items empty xs) (run_items empty ys) → ⊥

-- ---- the calls

-- two senders, a before b
unfoldable pub a : Bytes
a = replicate 20 1

unfoldable pub b : Bytes
b = replicate 20 2

-- two frame hashes
unfoldable pub h : Bytes
h = replicate 32 3

unfoldable pub i : Bytes
i = replicate 32 4

unfoldable pub frame : Bytes → Bytes → Frame
frame hash from = record { hash = hash; from = from; expected = 5; claim = 8; chain_id = 1; gas = 21000; ticket = 0 }

-- a call that is lent slices for 64 frames
unfoldable pub ask : Call → Item
ask c = single (record { call = c; form = long; numbers = 19 * 64; bytes = 64 * 64 })

unfoldable pub parks : Bytes → Bytes → Item
parks hash from = ask (push (frame hash from))

-- mined in block 100
unfoldable pub enters100 : Bytes → Item
enters100 hash = ask (enter_tentative hash (record { kind = mined; block = 100; block_hash = replicate 32 5 }))

unfoldable pub finalized100 : Item
finalized100 = ask (check_finalized 100)

-- revives what entered in block 100
unfoldable pub reorganised100 : Item
reorganised100 = ask (check_reorg 100 None)

-- the frame's whole gap: where it is known, a poll rescues a tracked frame
unfoldable pub whole_gap : List ℕ
whole_gap = 5 ∷ 6 ∷ 7 ∷ []

-- a poll with rows in this form, lent so many numbers
unfoldable pub polls : RowForm → ℕ → Bytes → Item
polls form numbers from = single (record { call = poll from 5 whole_gap None; form = form; numbers = numbers; bytes = 0 })

-- the sweep of such polls, lent so many numbers
unfoldable pub sweeps : ℕ → List Bytes → Item
sweeps numbers froms =
    sweep (record { senders = collect (λ x. x) froms; heads = map (λ x. 5) froms; counts = map (λ x. length whole_gap) froms; nonces = collect (λ x. whole_gap) froms; numbers = numbers })

-- a guard with this boundary
unfoldable pub guards : Bytes → ℕ → Item
guards hash boundary = ask (guard (record { hash = hash; kind = reparked boundary; predecessors = []; contents = [] }))

-- ---- two senders of one hash: what enters is b's frame, or a's, which comes first in walk order

unfoldable pub enter_before : List Item
enter_before = parks h b ∷ enters100 h ∷ parks h a ∷ []

unfoldable pub enter_after : List Item
enter_after = parks h b ∷ parks h a ∷ enters100 h ∷ []

-- ---- a call moved across a finality, though each sender has the same calls in the same order

unfoldable pub finality_last : List Item
finality_last = parks h a ∷ enters100 h ∷ finalized100 ∷ []

unfoldable pub finality_between : List Item
finality_between = parks h a ∷ finalized100 ∷ enters100 h ∷ []

-- ---- a call moved across a reorganisation, though each sender has the same calls in the same order

unfoldable pub reorg_last : List Item
reorg_last = parks h a ∷ enters100 h ∷ reorganised100 ∷ []

unfoldable pub reorg_between : List Item
reorg_between = parks h a ∷ reorganised100 ∷ enters100 h ∷ []

-- ---- a sender's two calls swapped

unfoldable pub poll_after : List Item
poll_after = parks h a ∷ polls long 19 a ∷ []

unfoldable pub poll_before : List Item
poll_before = polls long 19 a ∷ parks h a ∷ []

-- ---- two guards of a hash that nobody pushes, swapped, though no sender has a call: the one that comes last stays

unfoldable pub five_then_six : List Item
five_then_six = guards h 5 ∷ guards h 6 ∷ []

unfoldable pub six_then_five : List Item
six_then_five = guards h 6 ∷ guards h 5 ∷ []

-- ---- refusal 2 in one order: b's push comes when 64 frames of a are held, or when they are evicted

-- so many pushes of one frame of a
unfoldable pub parks_of : ℕ → List Item
parks_of zero = []
parks_of (suc n) = parks h a ∷ parks_of n

unfoldable pub evict_first : List Item
evict_first = parks_of 64 ++ ask (evict_sender a) ∷ parks i b ∷ []

unfoldable pub evict_last : List Item
evict_last = parks_of 64 ++ parks i b ∷ ask (evict_sender a) ∷ []

-- ---- refusal 5 in one list: the calls of `poll_after` in the same order, but the poll's slice has a number too few for its row

unfoldable pub poll_lacks_room : List Item
poll_lacks_room = parks h a ∷ polls long 18 a ∷ []

unfoldable pub short_lacks_room : List Item
short_lacks_room = parks h a ∷ polls short 4 a ∷ []

-- ---- refusal 5 of a sweep in one list: a, listed twice, counts twice, though its second poll would find no entry

unfoldable pub sweep_after : List Item
sweep_after = parks h a ∷ sweeps 38 (a ∷ a ∷ []) ∷ []

unfoldable pub sweep_lacks_room : List Item
sweep_lacks_room = parks h a ∷ sweeps 37 (a ∷ a ∷ []) ∷ []

-- ---- refusal 8 in one order: the guard of i comes when 64 guards stand, or when a's eviction has dropped that of h

-- so many guards, each of another hash that nobody pushes
unfoldable pub guards_of : ℕ → List Item
guards_of zero = []
guards_of (suc n) = guards (9 ∷ n ∷ replicate 30 9) 5 ∷ guards_of n

unfoldable pub drop_first : List Item
drop_first = parks h a ∷ guards h 5 ∷ guards_of 63 ++ ask (evict_sender a) ∷ guards i 5 ∷ []

unfoldable pub drop_last : List Item
drop_last = parks h a ∷ guards h 5 ∷ guards_of 63 ++ guards i 5 ∷ ask (evict_sender a) ∷ []

-- ---- lists that satisfy all premises: two senders, and a reorganisation between that revives a's frame; then a sweep of both, or
-- polls, b's with short rows

-- over 64 senders: refused with 17, and so read as no call
unfoldable pub sweeps_many : Item
sweeps_many = sweeps 0 (replicate 65 a)

unfoldable pub a_then_b : List Item
a_then_b = parks h a ∷ enters100 h ∷ parks i b ∷ reorganised100 ∷ sweeps_many ∷ sweeps 38 (a ∷ b ∷ []) ∷ []

unfoldable pub b_between : List Item
b_between = parks h a ∷ parks i b ∷ enters100 h ∷ reorganised100 ∷ polls short 5 b ∷ polls long 19 a ∷ []

-- ---- the claims

pub record Premises : Type 0 where
  -- without the premise on pushes
  pub one_sender : InTwoOrders enter_before enter_after × BothHaveRoom enter_before enter_after × StoresDiffer enter_before enter_after
  -- without the finality's place in the condition on order: each sender still has the same calls in the same order
  pub finality :
      ((k : Key) → SameOf k finality_last finality_between)
      × OneSender (calls_read finality_last)
      × BothHaveRoom finality_last finality_between
      × StoresDiffer finality_last finality_between
  -- without the reorganisation's place, in the same way
  pub reorganisation :
      ((k : Key) → SameOf k reorg_last reorg_between)
      × OneSender (calls_read reorg_last)
      × BothHaveRoom reorg_last reorg_between
      × StoresDiffer reorg_last reorg_between
  -- without the order of a sender's calls
  pub senders_order : OneSender (calls_read poll_after) × BothHaveRoom poll_after poll_before × StoresDiffer poll_after poll_before
  -- without the order of the calls of a hash that nobody pushes: every sender still has the same calls in the same order
  pub unpushed_order :
      ((from : Bytes) → SameOf (sender from) five_then_six six_then_five)
      × OneSender (calls_read five_then_six)
      × BothHaveRoom five_then_six six_then_five
      × StoresDiffer five_then_six six_then_five
  -- without the premise on room, for one of the two runs: 64 frames are held
  pub room2 : InTwoOrders evict_first evict_last × OneSender (calls_read evict_first) × OnlySecondRefused 2 evict_first evict_last × StoresDiffer evict_first evict_last
  -- the rows are shorter than 19 times the sender's entries
  pub room5 : InTwoOrders poll_after poll_lacks_room × OneSender (calls_read poll_after) × OnlySecondRefused 5 poll_after poll_lacks_room × StoresDiffer poll_after poll_lacks_room
  -- short rows are shorter than five times the sender's entries
  pub room5_short : InTwoOrders poll_after short_lacks_room × OneSender (calls_read poll_after) × OnlySecondRefused 5 poll_after short_lacks_room × StoresDiffer poll_after short_lacks_room
  -- a sweep's slice is shorter than 19 times the entries of its senders, though its polls by themselves would not be refused
  pub room5_sweep :
      InTwoOrders sweep_after sweep_lacks_room
      × OneSender (calls_read sweep_after)
      × OnlySecondRefused 5 sweep_after sweep_lacks_room
      × (keep (λ (t : Call × Answer). about_room t.1) (transcript_read empty sweep_lacks_room) ≡ [])
      × StoresDiffer sweep_after sweep_lacks_room
  -- 64 guards, none of this hash
  pub room8 : InTwoOrders drop_first drop_last × OneSender (calls_read drop_first) × OnlySecondRefused 8 drop_first drop_last × StoresDiffer drop_first drop_last
  -- all of them together, and what the rule then says of the stores
  pub together : InTwoOrders a_then_b b_between × OneSender (calls_read a_then_b) × BothHaveRoom a_then_b b_between
  pub same_stores : SameStore (run_items empty a_then_b) (run_items empty b_between)
