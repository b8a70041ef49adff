-- A call that is made gives what the definitions read and say; where none is read, nothing is done.
use Prim.Native.Nat.{ℕ, ◌-◌, ◌≤◌}
use native.Mathlib.Omega.{arith}
use mathlib.Core.Path.{◌≡◌, refl}
use mathlib.Core.Bool.{false}
use mathlib.Core.List.{List, []}
use Rattle.std.specs.Prelude.{None, Some}
use lib.ListN.{length, take, drop, length-drop}
use Rattle.lists.specs.Bytes.{Bytes}
use Rattle.store_rules.specs.Frames.{Consumed, GuardKind}
use Rattle.store_rules.specs.Store.{Call, poll, guard, enter_tentative, RowForm, long}
use Rattle.store_rules.specs.Totals.{is_eviction}
use Rattle.answers.specs.Promises.{heard}
use Rattle.answers.specs.declared.Outcome.{Outcome}
use Rattle.gap_quarantine.specs.Promises.{view_of, PerformsIn, Performs, Enters, heard_entering}
use Rattle.gap_quarantine.specs.declared.Quarantine.{Quarantine}
use Rattle.gap_quarantine.specs.declared.Entered as gap
use Rattle.trace_format.specs.Reading.{got, cut_short, bad, ReadCall}
use Rattle.trace_format.specs.Standing.{NotRead}
use Rattle.trace_calls.specs.Promises.{MakesCall, MakesOne, Makes, nothing, answered_as}
use Rattle.trace_calls.specs.declared.Made.{Made}
use Rattle.trace_calls.specs.declared.Reply.TheVariants.{Entered}
use Rattle.trace_calls.proofs.Lending.{NoBytes, NoSlice, any-bytes, any_slice, known_kept, nonces-kept, predecessors-kept}

module _ (form : RowForm) (q : Quarantine) (bs : Bytes) where
  pub not_made : (read : ReadCall) (slice bytes : List ℕ) (r : Made) → NotRead read → r ≡ nothing q → Makes form q bs read slice bytes r slice bytes
  not_made (got c rest) slice bytes r n e = absurd n
  not_made cut_short slice bytes r n e = (e, refl, refl)
  not_made bad slice bytes r n e = (e, refl, refl)

  pub made : (read : ReadCall) (c : Call) (end : ℕ) (slice bytes : List ℕ) (r : Made) (slice' bytes' : List ℕ) →
      read ≡ got c (drop end bs) → end ≤ length bs → MakesOne form q c end slice bytes r.call r.store slice' bytes' → Makes form q bs read slice bytes r slice' bytes'
  made read c end slice bytes r slice' bytes' e h m =
      let size : length bs - length (drop end bs) ≡ end = omega (arith, length-drop end bs) in
      rw (e, size) m

  module _ (read : ReadCall) (c : Call) (end : ℕ) (o : Outcome Quarantine) (r : Made) (is : read ≡ got c (drop end bs)) (h : end ≤ length bs) (e : r ≡ answered_as end (is_eviction c) o) where
    pub made-answered : (slice bytes slice' bytes' : List ℕ) → PerformsIn form q c slice bytes o slice' bytes' → Makes form q bs read slice bytes r slice' bytes'
    made-answered slice bytes slice' bytes' p = rw e (made read c end slice bytes (answered_as end (is_eviction c) o) slice' bytes' is h (record { size = refl; evicts = refl; steps = p }))

    -- it takes no slice of bytes, or none at all
    pub made-numbers : NoBytes c → (slice slice' bytes : List ℕ) → PerformsIn form q c slice [] o slice' [] → Makes form q bs read slice bytes r slice' bytes
    made-numbers n slice slice' bytes p = made-answered slice bytes slice' bytes (any-bytes view_of form q c (heard o.answer) o.store slice slice' bytes n p)

    pub made-alone : NoSlice c → (slice bytes : List ℕ) → PerformsIn form q c [] [] o [] [] → Makes form q bs read slice bytes r slice bytes
    made-alone n slice bytes p = made-answered slice bytes slice bytes (any_slice view_of form q c (heard o.answer) o.store slice bytes n p)

-- ---- entering

pub entered-call : (q : Quarantine) (hash : Bytes) (c : Consumed) (size : ℕ) (o : gap.Entered Quarantine) (slice bytes : List ℕ) → Enters q hash c o →
    MakesCall long q (enter_tentative hash c) size slice bytes (record { size = size; evicts = false; reply = Entered o.whose }) o.store slice bytes
entered-call q hash c size o slice bytes e =
    record { size = refl; evicts = refl; steps = any_slice view_of long q (enter_tentative hash c) (heard_entering o.whose) o.store slice bytes tt e }

-- ---- a call whose lists were cut past their limit

pub guard-as-read : (q : Quarantine) (kind : GuardKind) (hash hash' : Bytes) (preds preds' : List ℕ) (contents contents' : Bytes) (o : Outcome Quarantine) →
    hash' ≡ hash → preds' ≡ take 17 preds → contents' ≡ contents →
    Performs q (guard (record { hash = hash'; kind = kind; predecessors = preds'; contents = contents' })) [] [] o [] [] →
    Performs q (guard (record { hash = hash; kind = kind; predecessors = preds; contents = contents })) [] [] o [] []
guard-as-read q kind hash hash' preds preds' contents contents' o h p c done =
    rw (predecessors-kept (view_of q) long [] [] hash kind preds contents) at (rw (h, p, c) at done)

module _ (form : RowForm) (q : Quarantine) (sender sender' : Bytes) (head head' : ℕ) (known known' slice slice' : List ℕ) (o : Outcome Quarantine)
    (s : sender' ≡ sender) (h : head' ≡ head) (k : known' ≡ take 257 known) where
  pub poll-as-read : PerformsIn form q (poll sender' head' known' None) slice [] o slice' [] → PerformsIn form q (poll sender head known None) slice [] o slice' []
  poll-as-read done = rw (known_kept (view_of q) form slice [] sender head known None) at (rw (s, h, k) at done)

  pub content-as-read : (nonces nonces' : List ℕ) (hashes hashes' : Bytes) → nonces' ≡ take 65 nonces → hashes' ≡ hashes →
      PerformsIn form q (poll sender' head' known' (Some (record { nonces = nonces'; hashes = hashes' }))) slice [] o slice' [] →
      PerformsIn form q (poll sender head known (Some (record { nonces = nonces; hashes = hashes }))) slice [] o slice' []
  content-as-read nonces nonces' hashes hashes' n c done =
      rw (nonces-kept (view_of q) form slice [] sender head known nonces hashes)
      at (rw (known_kept (view_of q) form slice [] sender head known (Some (record { nonces = take 65 nonces; hashes = hashes }))) at (rw (s, h, k, n, c) at done))
