-- The entries that eviction, reorganisation and finality take up, and what is listed of each.
use Rattle.std.specs.Prelude.{ℕ, Bool, true, false, ◌&&◌, cond, List, [], ◌∷◌, eqb, leb, replicate}
use Rattle.std.specs.Prelude.{Option, None, Some}
use Rattle.lists.specs.Bytes.{Bytes, eq_bytes}
use Rattle.store_rules.specs.Frames.{Consumed, mined, State, tracked, tentative, Standing, Entry, Dead, Visit}
use Rattle.store_rules.specs.Poll.{stay}
use Rattle.store_rules.specs.Rules.{differs}
use Rattle.store_rules.specs.Store.{Call, evict_sender, check_reorg, check_finalized}
use Rattle.store_rules.specs.Answers.{ticket_numbers, dead_numbers, dead_bytes}
use Rattle.decisions.specs.declared.selection.Selection.{Selection}
use Rattle.decisions.specs.declared.selection.Selection.TheVariants.{OfSender, Reorganised, Finalized}

-- the call that takes these entries up
abbrev pub call_of : Selection → Call
call_of (OfSender a) = evict_sender a
call_of (Reorganised block hash) = check_reorg block hash
call_of (Finalized block) = check_finalized block

-- ---- which entries

-- whether a reorganisation of this block revives an entry of this state
abbrev pub revives : State → ℕ → Option Bytes → Bool
revives tracked block canonical = false
revives (tentative c) block canonical = eqb c.block block && differs canonical c.block_hash

-- whether finality of this block ends an entry of this state
abbrev pub ends : State → ℕ → Bool
ends tracked block = false
ends (tentative c) block = leb c.block block

abbrev pub selected : Selection → Entry → Bool
selected (OfSender a) e = eq_bytes e.frame.from a
selected (Reorganised block hash) e = revives e.standing.state block hash
selected (Finalized block) e = ends e.standing.state block

-- whether finality takes them up
abbrev pub is_finality : Selection → Bool
is_finality (OfSender a) = false
is_finality (Reorganised block hash) = false
is_finality (Finalized block) = true

-- ---- what becomes of them

-- the entry, tracked again
abbrev pub revived : Entry → Entry
revived e = record { frame = e.frame; standing = record { state = tracked; held = e.standing.held } }

-- a selected entry as it is listed: whole, and revived if a reorganisation takes it up
abbrev pub listed_as : Selection → Entry → Entry
listed_as (OfSender a) e = e
listed_as (Reorganised block hash) e = revived e
listed_as (Finalized block) e = e

-- it stays, if it is revived, or leaves
abbrev pub stays_as : Selection → Entry → Option Standing
stays_as (OfSender a) e = None
stays_as (Reorganised block hash) e = Some (revived e).standing
stays_as (Finalized block) e = None

abbrev pub taken : Selection → Entry → Visit Entry
taken s e = record { stays = stays_as s e; drops = true; lists = listed_as s e ∷ [] }

abbrev pub select_rule : Selection → Entry → Visit Entry
select_rule s e = cond (selected s e) (taken s e) (stay e.standing [])

-- ---- what is listed of them

-- what consumed the nonce of a tentative entry
abbrev pub consumed_in : State → Consumed
consumed_in tracked = record { kind = mined; block = 0; block_hash = replicate 32 0 }
consumed_in (tentative c) = c

abbrev pub dead_of : Entry → Dead
dead_of e = record { frame = e.frame; consumed = consumed_in e.standing.state }

-- finality lists three numbers and 64 bytes a frame, the others one number
abbrev pub number_width : Selection → ℕ
number_width (OfSender a) = 1
number_width (Reorganised block hash) = 1
number_width (Finalized block) = 3

abbrev pub byte_width : Selection → ℕ
byte_width (OfSender a) = 0
byte_width (Reorganised block hash) = 0
byte_width (Finalized block) = 64

abbrev pub numbers_for : Selection → Entry → List ℕ
numbers_for (OfSender a) e = ticket_numbers e.frame
numbers_for (Reorganised block hash) e = ticket_numbers e.frame
numbers_for (Finalized block) e = dead_numbers (dead_of e)

abbrev pub bytes_for : Selection → Entry → Bytes
bytes_for (OfSender a) e = []
bytes_for (Reorganised block hash) e = []
bytes_for (Finalized block) e = dead_bytes (dead_of e)

abbrev pub is_tentative : State → Bool
is_tentative tracked = false
is_tentative (tentative c) = true
