-- Demand 3, the rule of two orders: its condition on order, its premises, and its claim, `OrderRule`.
-- The lists are of the calls that return a store. Calls that only read return none, so they stand in no list: they may come
-- between, uncompared.
use Rattle.std.specs.Prelude.{ℕ, ◌≡◌, Bool, true, false, ◌||◌, cond, eqb}
use mathlib.Core.List.{List, [], ◌∷◌, ◌++◌, Memᴰ}
use Rattle.std.specs.Prelude.{Option, None, Some}
use Rattle.lists.specs.Bytes.{Bytes, eq_bytes}
use Rattle.store_rules.specs.Frames.{Frame, Entry}
use Rattle.lists.specs.Lists.{keep, collect}
use Rattle.store_rules.specs.Store.{Store, empty, SameStore, Call, push, poll, guard, enter_tentative, evict_sender, check_reorg, check_finalized, Answer, total, rows, recorded, entered, frames, dead, refused, Request, step, run, calls}
use Rattle.store_rules.specs.Sweeps.{polls_of, polls_in, sweep_input_refusal, Item, single, sweep, step_item, run_items}

-- ---- whose call it is

-- Whose a call is: a sender's, or that of a frame hash that no sender pushes, which counts as a sender by itself.
pub data Key : Type 0 where
  sender : Bytes → Key
  alone : Bytes → Key

unfoldable pub eq_key : Key → Key → Bool
eq_key (sender a) (sender b) = eq_bytes a b
eq_key (sender a) (alone h) = false
eq_key (alone h) (sender a) = false
eq_key (alone h) (alone i) = eq_bytes h i

-- the frame of a push; a refused push counts as a push
unfoldable pub push_of : Call → Option Frame
push_of (push f) = Some f
push_of (poll a head known content) = None
push_of (guard g) = None
push_of (enter_tentative h c) = None
push_of (evict_sender a) = None
push_of (check_reorg b canonical) = None
push_of (check_finalized n) = None

-- the sender of this push, if its frame has this hash, or else what the later calls say
unfoldable pub owner_by : Option Frame → Bytes → Key → Key
owner_by None h later = later
owner_by (Some f) h later = cond (eq_bytes f.hash h) (sender f.from) later

-- the sender that pushes this hash in these calls, or the hash alone if none does
unfoldable pub owner_in : List Call → Bytes → Key
owner_in [] h = alone h
owner_in (c ∷ cs) h = owner_by (push_of c) h (owner_in cs h)

-- the frames that a store holds, as pushes
unfoldable pub pushes_of : List Entry → List Call
pushes_of [] = []
pushes_of (e ∷ es) = push e.frame ∷ pushes_of es

-- Whose a call is. A push, a poll and an eviction name their sender; a guard or an entering belongs to the sender that pushes
-- its hash, the hash's owner; a reorganisation or a finality is no sender's.
unfoldable pub key_by : (Bytes → Key) → Call → Option Key
key_by owner (push f) = Some (sender f.from)
key_by owner (poll a head known content) = Some (sender a)
key_by owner (guard g) = Some (owner g.hash)
key_by owner (enter_tentative h c) = Some (owner h)
key_by owner (evict_sender a) = Some (sender a)
key_by owner (check_reorg b canonical) = None
key_by owner (check_finalized n) = None

-- whether a call is one for the keys that pass a test: a sender's call is if its key passes, a reorganisation or a finality always is
unfoldable pub concerns : (Key → Bool) → Option Key → Bool
concerns p None = true
concerns p (Some k) = p k

-- the premise on pushes: no frame hash is pushed by two senders
abbrev pub OneSender : List Call → Type 0
OneSender cs = (f g : Frame) → Memᴰ (push f) cs → Memᴰ (push g) cs → f.hash ≡ g.hash → f.from ≡ g.from

-- ---- the condition on order, for items of any kind that have a key or none: it is asked of the calls, and claimed of the
-- calls with their answers

-- an item's key is this one
unfoldable pub is_for : Key → Option Key → Bool
is_for k None = false
is_for k (Some j) = eq_key j k

module _ {A : Type 0} (key_of : A → Option Key) where
  -- the items of one key, in their order
  unfoldable pub of_key : Key → List A → List A
  of_key k = keep (λ x. is_for k (key_of x))

  -- every item has a key: no reorganisation and no finality stands in this stretch
  pub data Keyed : List A → Type 0 where
    nothing : Keyed []
    also : {x : A} {xs : List A} (k : Key) → key_of x ≡ Some k → Keyed xs → Keyed (x ∷ xs)

  -- one stretch before, between or after the reorganisations and finalities: each sender has the same calls in the same order
  pub record SameCalls (s t : List A) : Type 0 where
    pub keyed : Keyed s × Keyed t
    pub same : (k : Key) → of_key k s ≡ of_key k t

  -- both lists have the same reorganisations and finalities in one order, which cut them into stretches that correspond: the last stretch,
  -- or a stretch with the reorganisation or finality that ends it
  pub data TwoOrders : List A → List A → Type 0 where
    rest : {s t : List A} → SameCalls s t → TwoOrders s t
    cut : {s t xs ys : List A} {g : A} → SameCalls s t → key_of g ≡ None → TwoOrders xs ys → TwoOrders (s ++ g ∷ xs) (t ++ g ∷ ys)

-- ---- what is compared

-- all that a call answers (rows, lists, their number, true or false with sender and place, refusal) except a push's total; a poll's
-- rows as they tell of the frames, in whichever form each list asks for them
unfoldable pub shown : Answer → Answer
shown (total n) = total 0
shown (rows l) = rows l
shown recorded = recorded
shown (entered w) = entered w
shown (frames l) = frames l
shown (dead l) = dead l
shown (refused n) = refused n

-- each call of a run with what it answers
unfoldable pub transcript : Store → List Request → List (Call × Answer)
transcript s [] = []
transcript s (q ∷ qs) = (q.call, shown (step s q).1) ∷ transcript (step s q).0 qs

-- refusals 2, 5 and 8
unfoldable pub about_room : Answer → Bool
about_room (total n) = false
about_room (rows l) = false
about_room recorded = false
about_room (entered w) = false
about_room (frames l) = false
about_room (dead l) = false
about_room (refused n) = eqb n 2 || eqb n 5 || eqb n 8

-- the premise on room: no call of this run is refused with 2, 5 or 8; the other refusals hang on inputs alone
abbrev pub EnoughRoom : Store → List Request → Type 0
EnoughRoom s qs = (c : Call) (a : Answer) → Memᴰ (c, a) (transcript s qs) → about_room a ≡ false

-- ---- sweeps among the calls (request 2027-05)

-- nothing, if something is refused
unfoldable pub unrefused : {A : Type 0} → Option ℕ → List A → List A
unrefused None l = l
unrefused (Some n) l = []

-- the calls that an item is read as: a sweep as its polls, and as none if 3, 17 or 18 refuses it
unfoldable pub calls_of : Item → List Call
calls_of (single q) = q.call ∷ []
calls_of (sweep w) = unrefused (sweep_input_refusal w) (polls_of w)

unfoldable pub calls_read : List Item → List Call
calls_read = collect calls_of

-- the same with the slices that the calls are lent, if the item comes upon this store
unfoldable pub requests_of : Store → Item → List Request
requests_of s (single q) = q ∷ []
requests_of s (sweep w) = unrefused (sweep_input_refusal w) (polls_in s w)

-- each call that is read in a run, with what it answers; a sweep refused with 5, whose polls are not made, fails the premise on room
unfoldable pub transcript_read : Store → List Item → List (Call × Answer)
transcript_read s [] = []
transcript_read s (i ∷ is) = transcript s (requests_of s i) ++ transcript_read (step_item s i).0 is

-- the premise on room: no call and no sweep of this run is refused with 2, 5 or 8
abbrev pub RoomFor : Store → List Item → Type 0
RoomFor s [] = Unit {0}
RoomFor s (i ∷ is) = (about_room (step_item s i).1 ≡ false) × RoomFor (step_item s i).0 is

-- ---- the rule

-- Of lists of any kind of which it is known which calls they are read as, whether a run has room, the store after it, and its
-- transcript. The lists are two orders of the same calls, as the condition says; no frame hash is pushed by two senders, in the
-- pushes before the calls or among them; no run is refused for want of room, whatever slices are lent. Then the stores found
-- afterwards are equal, and the transcripts meet the same condition: calls in the same place have the same answers. The owners
-- are read from the first list; the second gives the same ones (`same-owner`).
abbrev pub InAnyOrder : {A : Type 0} → List Call → (List A → List Call) → (List A → Type 0) → (List A → Store) → (List A → List (Call × Answer)) → Type 0
InAnyOrder {A} before read Room after tells =
    (xs ys : List A) →
    TwoOrders (key_by (owner_in (before ++ read xs))) (read xs) (read ys) →
    OneSender (before ++ read xs) →
    Room xs →
    Room ys →
    SameStore (after xs) (after ys) × TwoOrders (λ (t : Call × Answer). key_by (owner_in (before ++ read xs)) t.0) (tells xs) (tells ys)

-- both runs begin from the store `s`, in which each entry counts as pushed by its sender before the calls
abbrev pub OrderRuleFrom : Store → Type 0
OrderRuleFrom s = InAnyOrder (pushes_of s.entries) calls_read (RoomFor s) (run_items s) (transcript_read s)

-- demand 3: from an empty store
abbrev pub OrderRule : Type 0
OrderRule = InAnyOrder [] calls_read (RoomFor empty) (run_items empty) (transcript_read empty)

-- the same of lists without sweeps
abbrev pub PlainRuleFrom : Store → Type 0
PlainRuleFrom s = InAnyOrder (pushes_of s.entries) calls (EnoughRoom s) (run s) (transcript s)

-- it is the rule's special case
abbrev pub PlainIsSpecial : Type 0
PlainIsSpecial = (s : Store) → OrderRuleFrom s → PlainRuleFrom s
