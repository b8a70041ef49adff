-- The store, its calls with their refusals, and what each call does: `step`.
use Rattle.std.specs.Prelude.{ℕ, suc, ◌*◌, ◌-◌, ◌%◌, ◌≡◌, Bool, true, false, ◌&&◌, ◌||◌, not, cond, List, [], ◌∷◌, ◌++◌, eqb, leb, ltb, length}
use Rattle.std.specs.Prelude.{Option, None, Some}
use Rattle.std.specs.Option.{option_or}
use Rattle.lists.specs.Bytes.{Bytes, eq_bytes, le_bytes}
use Rattle.lists.specs.Lists.{keep, is_empty, Pairwise}
use Rattle.store_rules.specs.Frames.{Frame, Consumed, tracked, Standing, Entry, Guard, Row, Dead, Visit}
use Rattle.store_rules.specs.Poll.{Content, poll_rule}
use Rattle.store_rules.specs.Rules.{only_of, evict_rule, reorg_rule, final_rule}
use Rattle.store_rules.specs.Lookup.{entries_of, enters, Whose, whose_found, lookup, is_found, enter_first}

-- Entries in walk order: ascending address, then push order. One guard a hash, in any order.
pub record Store : Type 0 where
  pub entries : List Entry
  pub guards : List Guard

unfoldable pub empty : Store
empty = record { entries = []; guards = [] }

-- walk order: no entry's address is below that of an entry before it
abbrev pub NotBefore : Bytes → Entry → Type 0
NotBefore a e = le_bytes a e.frame.from ≡ true

abbrev pub Sorted : List Entry → Type 0
Sorted = Pairwise (λ (e f : Entry). NotBefore e.frame.from f)

-- ---- guards by hash

unfoldable pub guard_of : Bytes → List Guard → Option Guard
guard_of h [] = None
guard_of h (g ∷ gs) = cond (eq_bytes g.hash h) (Some g) (guard_of h gs)

-- whether there is one
unfoldable pub is_guarded : Option Guard → Bool
is_guarded None = false
is_guarded (Some g) = true

unfoldable pub drop_guard : Bytes → List Guard → List Guard
drop_guard h gs = keep (λ g. not (eq_bytes g.hash h)) gs

-- a new guard replaces the old one of its hash in its place, or comes last
unfoldable pub put_guard : Guard → List Guard → List Guard
put_guard g [] = g ∷ []
put_guard g (x ∷ xs) = cond (eq_bytes x.hash g.hash) (g ∷ xs) (x ∷ put_guard g xs)

-- the same store: the walk meets the same entries, and each hash has the same guard
pub record SameStore (s t : Store) : Type 0 where
  pub entries : s.entries ≡ t.entries
  pub guards : (h : Bytes) → guard_of h s.guards ≡ guard_of h t.guards

-- ---- calls and answers

-- the inputs of each call that may change the store, but for the slices lent to it
pub data Call : Type 0 where
  push : Frame → Call
  -- sender, head, known nonces, content or none
  poll : Bytes → ℕ → List ℕ → Option Content → Call
  guard : Guard → Call
  -- frame hash, what consumed its nonce
  enter_tentative : Bytes → Consumed → Call
  -- block, its hash or none
  check_reorg : ℕ → Option Bytes → Call
  -- block
  check_finalized : ℕ → Call
  -- sender
  evict_sender : Bytes → Call

-- how the rows of a poll are written: in document 01's form of 19 numbers, or in five (request 2027-03)
pub data RowForm : Type 0 where
  long : RowForm
  short : RowForm

unfoldable pub row_width : RowForm → ℕ
row_width long = 19
row_width short = 5

-- a call, with the form of its rows and the lengths of the slices lent to it: of numbers, and of bytes (0 where it takes none)
pub record Request : Type 0 where
  pub call : Call
  pub form : RowForm
  pub numbers : ℕ
  pub bytes : ℕ

pub data Answer : Type 0 where
  total : ℕ → Answer
  rows : List Row → Answer
  recorded : Answer
  -- whose the entry is that entered, if one did
  entered : Option Whose → Answer
  frames : List Frame → Answer
  dead : List Dead → Answer
  refused : ℕ → Answer

-- ---- one walk over the entries

-- what a visit leaves of an entry, in front of the entries after it
unfoldable pub after : Option Standing → Frame → List Entry → List Entry
after None f es = es
after (Some s) f es = record { frame = f; standing = s } ∷ es

pub record Walked (A : Type 0) : Type 0 where
  pub entries : List Entry
  pub guards : List Guard
  pub listed : List A

module _ {A : Type 0} where
  -- each entry is visited in turn, with its hash's guard as the visits before have left the guards
  unfoldable pub walk : (Option Guard → Entry → Visit A) → List Entry → List Guard → Walked A
  walk rule [] gs = record { entries = []; guards = gs; listed = [] }
  walk rule (e ∷ es) gs =
      let v = rule (guard_of e.frame.hash gs) e in
      let r = walk rule es (cond v.drops (drop_guard e.frame.hash gs) gs) in
      record { entries = after v.stays e.frame r.entries; guards = r.guards; listed = v.lists ++ r.listed }

  unfoldable pub walked : Walked A → (List A → Answer) → Store × Answer
  walked w answer = (record { entries = w.entries; guards = w.guards }, answer w.listed)

-- ---- push

-- a tracked entry that was never held
unfoldable pub fresh : Frame → Entry
fresh f = record { frame = f; standing = record { state = tracked; held = None } }

-- behind the entries whose address is at most its own
unfoldable pub insert : Entry → List Entry → List Entry
insert e [] = e ∷ []
insert e (f ∷ fs) = cond (le_bytes f.frame.from e.frame.from) (f ∷ insert e fs) (e ∷ f ∷ fs)

-- ---- what a call that is not refused does

unfoldable pub effect : Store → Call → Store × Answer
effect s (push f) = (record { entries = insert (fresh f) s.entries; guards = s.guards }, total (suc (length s.entries)))
effect s (poll a head known content) = walked (walk (only_of a (poll_rule head known content)) s.entries s.guards) rows
effect s (guard g) = (record { entries = s.entries; guards = put_guard g s.guards }, recorded)
effect s (enter_tentative h c) = (
  record { entries = enter_first h c s.entries; guards = cond (is_found (lookup (enters h) s.entries)) (drop_guard h s.guards) s.guards },
  entered (whose_found (lookup (enters h) s.entries)),
)
effect s (check_reorg b canonical) = walked (walk (reorg_rule b canonical) s.entries s.guards) frames
effect s (check_finalized n) = walked (walk (final_rule n) s.entries s.guards) dead
effect s (evict_sender a) = walked (walk (only_of a evict_rule) s.entries s.guards) frames

-- ---- refusals: in the table, each place has those that hang on the inputs first, and then the one about room

unfoldable pub when : Bool → ℕ → Option ℕ
when true n = Some n
when false n = None

-- 1: claim exceeds expected by more than 16
unfoldable pub wide_gap : Frame → Bool
wide_gap f = ltb 16 (f.claim - f.expected)

-- 4: over 64 pairs, or hash bytes not 32 times nonces
unfoldable pub bad_content : Option Content → Bool
bad_content None = false
bad_content (Some c) = ltb 64 (length c.nonces) || not (eqb (length c.hashes) (32 * length c.nonces))

-- 7: content not whole hashes or over 16
unfoldable pub bad_contents : Bytes → Bool
bad_contents contents = not (eqb (length contents % 32) 0) || ltb (32 * 16) (length contents)

-- 8: 64 guards, none of this hash
unfoldable pub no_room_for : Bytes → List Guard → Bool
no_room_for h gs = leb 64 (length gs) && is_empty (keep (λ g. eq_bytes g.hash h) gs)

unfoldable pub input_refusal : Call → Option ℕ
input_refusal (push f) = when (wide_gap f) 1
input_refusal (poll a head known content) = option_or (when (ltb 256 (length known)) 3) (when (bad_content content) 4)
input_refusal (guard g) = option_or (when (ltb 16 (length g.predecessors)) 6) (when (bad_contents g.contents) 7)
input_refusal (enter_tentative h c) = None
input_refusal (check_reorg b canonical) = None
input_refusal (check_finalized n) = None
input_refusal (evict_sender a) = None

-- how many an answer lists
unfoldable pub listed : Answer → ℕ
listed (total n) = 0
listed (rows l) = length l
listed recorded = 0
listed (entered w) = 0
listed (frames l) = length l
listed (dead l) = length l
listed (refused n) = 0

-- the rows that it tells of
unfoldable pub rows_of : Answer → List Row
rows_of (total n) = []
rows_of (rows l) = l
rows_of recorded = []
rows_of (entered w) = []
rows_of (frames l) = []
rows_of (dead l) = []
rows_of (refused n) = []

-- with so much room for numbers, and for bytes: finality takes 3 numbers and 64 bytes a frame, the others a number
unfoldable pub room_refusal : Store → Call → RowForm → ℕ → ℕ → Option ℕ
room_refusal s (push f) form numbers bytes = when (leb 64 (length s.entries)) 2
room_refusal s (poll a head known content) form numbers bytes = when (ltb numbers (row_width form * length (entries_of a s.entries))) 5
room_refusal s (guard g) form numbers bytes = when (no_room_for g.hash s.guards) 8
room_refusal s (enter_tentative h c) form numbers bytes = None
room_refusal s (check_reorg b canonical) form numbers bytes = when (ltb numbers (listed (effect s (check_reorg b canonical)).1)) 5
room_refusal s (check_finalized n) form numbers bytes =
    when (ltb numbers (3 * listed (effect s (check_finalized n)).1) || ltb bytes (64 * listed (effect s (check_finalized n)).1)) 5
room_refusal s (evict_sender a) form numbers bytes = when (ltb numbers (listed (effect s (evict_sender a)).1)) 5

unfoldable pub refusal : Store → Request → Option ℕ
refusal s q = option_or (input_refusal q.call) (room_refusal s q.call q.form q.numbers q.bytes)

-- ---- a call, and lists of calls

-- a refused call answers its number and changes nothing
unfoldable pub unless : Option ℕ → Store → Store × Answer → Store × Answer
unless (Some n) s done = (s, refused n)
unless None s done = done

unfoldable pub step : Store → Request → Store × Answer
step s q = unless (refusal s q) s (effect s q.call)

-- each call gets the store that the last one returned
unfoldable pub run : Store → List Request → Store
run s [] = s
run s (q ∷ qs) = run (step s q).0 qs

unfoldable pub calls : List Request → List Call
calls [] = []
calls (q ∷ qs) = q.call ∷ calls qs
