-- How a call is written, so that it can be read: and which calls fit document 01's widths.
use Rattle.std.specs.Prelude.{ℕ, ◌<◌, ◌^◌, ◌≡◌, List, [], ◌∷◌, ◌++◌, length}
use Rattle.std.specs.Prelude.{Option, None, Some}
use Rattle.lists.specs.Bytes.{Bytes}
use Rattle.lists.specs.Lists.{collect, Each}
use Rattle.wire.specs.Numbers.{digits}
use Rattle.store_rules.specs.Frames.{Frame, mined, taken, taken_by, ConsumedKind, GuardKind, reparked, unhydratable}
use Rattle.store_rules.specs.Poll.{Content}
use Rattle.store_rules.specs.Store.{Call, push, poll, guard, enter_tentative, check_reorg, check_finalized, evict_sender}
use Rattle.store_rules.specs.Answers.{kind_number}
use Rattle.trace_format.specs.Reading.{mark_p, mark_q, mark_g, mark_e, mark_r, mark_f, mark_v}

-- ---- the parts of a call

unfoldable pub numbers_written : List ℕ → Bytes
numbers_written l = digits 2 (length l) ++ collect (digits 8) l

unfoldable pub hashes_written : Bytes → Bytes
hashes_written bs = digits 2 (length bs) ++ bs

unfoldable pub optional_written : {A : Type 0} → (A → Bytes) → Option A → Bytes
optional_written value None = 0 ∷ []
optional_written value (Some v) = 1 ∷ value v

unfoldable pub content_written : Content → Bytes
content_written c = numbers_written c.nonces ++ hashes_written c.hashes

unfoldable pub guard_number : GuardKind → ℕ
guard_number (reparked boundary) = 1
guard_number unhydratable = 2

unfoldable pub boundary_written : GuardKind → Bytes
boundary_written (reparked boundary) = digits 8 boundary
boundary_written unhydratable = []

unfoldable pub taker_written : ConsumedKind → Bytes
taker_written mined = []
taker_written taken = []
taker_written (taken_by h) = h

-- ---- the seven calls

unfoldable pub write_call : Call → Bytes
write_call (push f) =
    mark_p ++ f.hash ++ f.from
    ++ digits 8 f.expected ++ digits 8 f.claim ++ digits 8 f.chain_id ++ digits 8 f.gas ++ digits 8 f.ticket
write_call (poll sender head known content) =
    mark_q ++ sender ++ digits 8 head ++ numbers_written known ++ optional_written content_written content
write_call (guard g) =
    mark_g ++ (guard_number g.kind ∷ []) ++ g.hash ++ numbers_written g.predecessors ++ hashes_written g.contents
    ++ boundary_written g.kind
write_call (enter_tentative hash c) =
    mark_e ++ hash ++ (kind_number c.kind ∷ []) ++ digits 8 c.block ++ c.block_hash ++ taker_written c.kind
write_call (check_reorg block hash) = mark_r ++ digits 8 block ++ optional_written (λ h. h) hash
write_call (check_finalized n) = mark_f ++ digits 8 n
write_call (evict_sender sender) = mark_v ++ sender

-- ---- which calls fit document 01's widths, and counts of two bytes

-- so many bytes
abbrev pub Long : ℕ → Bytes → Type 0
Long n bs = length bs ≡ n

abbrev pub NumberFits : ℕ → Type 0
NumberFits n = n < 256 ^ 8

abbrev pub CountFits : List ℕ → Type 0
CountFits l = length l < 256 ^ 2

abbrev pub NumbersFit : List ℕ → Type 0
NumbersFit l = CountFits l × Each NumberFits l

abbrev pub OptionFits : {A : Type 0} → (A → Type 0) → Option A → Type 0
OptionFits fits None = Unit {0}
OptionFits fits (Some v) = fits v

abbrev pub ContentFits : Content → Type 0
ContentFits c = NumbersFit c.nonces × CountFits c.hashes

abbrev pub GuardKindFits : GuardKind → Type 0
GuardKindFits (reparked boundary) = NumberFits boundary
GuardKindFits unhydratable = Unit {0}

abbrev pub KindFits : ConsumedKind → Type 0
KindFits mined = Unit {0}
KindFits taken = Unit {0}
KindFits (taken_by h) = Long 32 h

abbrev pub FrameFits : Frame → Type 0
FrameFits f =
    Long 32 f.hash × Long 20 f.from
    × NumberFits f.expected × NumberFits f.claim × NumberFits f.chain_id × NumberFits f.gas × NumberFits f.ticket

abbrev pub Fits : Call → Type 0
Fits (push f) = FrameFits f
Fits (poll sender head known content) = Long 20 sender × NumberFits head × NumbersFit known × OptionFits ContentFits content
Fits (guard g) = GuardKindFits g.kind × Long 32 g.hash × NumbersFit g.predecessors × CountFits g.contents
Fits (enter_tentative hash c) = Long 32 hash × KindFits c.kind × NumberFits c.block × Long 32 c.block_hash
Fits (check_reorg block hash) = NumberFits block × OptionFits (Long 32) hash
Fits (check_finalized n) = NumberFits n
Fits (evict_sender sender) = Long 20 sender
