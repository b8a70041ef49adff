-- One call of a trace: the number, the counts and the store that it leads to, and that no count overflows.
use Prim.Native.Nat.{ℕ, ◌+◌, ◌*◌, ◌-◌, ◌≤◌}
use native.Mathlib.Omega.{arith}
use mathlib.Core.Path.{◌≡◌, refl, sym, ap, ◌∙◌}
use mathlib.Core.Bool.{Bool, true, false}
use mathlib.Core.List.{List}
use Rattle.std.specs.Prelude.{None, Some, Result, Ok, Err}
use lib.ListN.{length}
use Rattle.lists.specs.Bytes.{Bytes}
use Rattle.lists.proofs.Writing.{written-fits}
use Rattle.store_rules.specs.Store.{Store, Call, long, short, row_width, Answer, total, rows, recorded, entered, frames, dead, refused, step}
use Rattle.store_rules.specs.Answers.{Said, says_total, says_rows, says_recorded, says_entered, says_frames, says_dead, says_refused, said, numbers_of}
use Rattle.store_rules.specs.Sweeps.{single}
use Rattle.store_rules.specs.Totals.{accepted_in, rescued_in, dead_in, evicted_in}
use Rattle.refusal.specs.Numbers.{refusal_number}
use Rattle.refusal.specs.declared.Refusal.{Refusal}
use Rattle.refusal.specs.declared.Refusal.TheVariants.{BadTrace}
use Rattle.answers.specs.Promises.{heard}
use Rattle.answers.specs.declared.Answer as coded
use Rattle.answers.specs.declared.Answer.TheVariants as coded-answer
use Rattle.gap_quarantine.specs.Promises.{view_of}
use Rattle.gap_quarantine.specs.declared.Quarantine.{Quarantine}
use Rattle.trace_format.specs.Reading.{got, cut_short, bad, ReadCall}
use Rattle.trace_format.specs.Traces.{lent, refusal_in}
use Rattle.trace_totals.specs.Counting.{zero, rescue_rows, plus, Below, numbers_said, counted}
use Rattle.trace_totals.specs.declared.Counts.{Counts}
use Rattle.trace_totals.proofs.Rows.{rescue-rows-few}
use Rattle.trace_totals.proofs.Adding.{adds, numbers-said}
use Rattle.trace_format.specs.Standing.{NotRead}
use Rattle.trace_calls.specs.Promises.{reply_said, MakesCall, Makes}
use Rattle.trace_calls.specs.declared.Called.{Called}
use Rattle.trace_calls.specs.declared.Made.{Made}
use Rattle.trace_calls.specs.declared.Reply.{Reply}
use Rattle.trace_calls.specs.declared.Reply.TheVariants.{Answered, Entered}
use Rattle.trace_run.specs.Promises.{number_said, number_of, numbers_listed, counted_by}

-- ---- its number

-- the number of what is said is that of the answer
said-number : (a : Answer) → number_said (said long a) ≡ refusal_in a
unfolding said refusal_in
said-number (total n) = refl
said-number (rows l) = refl
said-number recorded = refl
said-number (entered (Some w)) = refl
said-number (entered None) = refl
said-number (frames l) = refl
said-number (dead l) = refl
said-number (refused n) = refl

-- an answer that is no refusal
pub ok-number : (a : coded.Answer) → 0 ≡ number_said (heard (Ok a))
ok-number (coded-answer.Total n) = refl
ok-number (coded-answer.Rows n) = refl
ok-number (coded-answer.ShortRows n) = refl
ok-number coded-answer.Recorded = refl
ok-number (coded-answer.Frames n) = refl
ok-number (coded-answer.Dead n) = refl

reply-number : (r : Reply) → number_of r ≡ number_said (reply_said r)
reply-number (Answered a) = refl
reply-number (Entered (Some w)) = refl
reply-number (Entered None) = refl

-- ---- what it leads to

reply-listed : (r : Reply) → numbers_listed r ≡ numbers_said (reply_said r)
reply-listed (Answered a) = refl
reply-listed (Entered (Some w)) = refl
reply-listed (Entered None) = refl

nothing-added : (n : Counts) → n ≡ plus n 0 0 0 0
nothing-added n =
    let a : n.accepted ≡ n.accepted + 0 = omega arith in
    let r : n.rescued ≡ n.rescued + 0 = omega arith in
    let d : n.dead ≡ n.dead + 0 = omega arith in
    let e : n.evicted ≡ n.evicted + 0 = omega arith in
    λ i. record { accepted = a i; rescued = r i; dead = d i; evicted = e i }

reply-counted : (n : Counts) (b : Bool) (r : Reply) (numbers : List ℕ) → counted_by n b r numbers ≡ counted n b (reply_said r) numbers
reply-counted n b (Answered a) numbers = refl
reply-counted n b (Entered (Some w)) numbers = nothing-added n
reply-counted n b (Entered None) numbers = nothing-added n

-- the counts with what the answer of a call adds
abbrev pub plus_call : Counts → Store → Call → Counts
plus_call n s c =
    let a = (step s (lent c)).1 in
    plus n (accepted_in a) (rescued_in a) (dead_in a) (evicted_in (single (lent c)) a)

-- ---- the call that stands, or none

-- the call that was read is the one that was made
pub record IsRead (q : Quarantine) (bs : Bytes) (numbers hashes : List ℕ) (read : ReadCall) (k : Called) (store : Quarantine) (numbers' hashes' : List ℕ) : Type 0 where
  pub c : Call
  pub rest : Bytes
  pub is : read ≡ got c rest
  pub made : MakesCall long q c (length bs - length rest) numbers hashes k store numbers' hashes'

module _ (q : Quarantine) (bs : Bytes) (numbers hashes : List ℕ) (numbers' hashes' : List ℕ) (r : Made) where
  pub is-read : (read : ReadCall) (k : Called) → r.call ≡ Ok k → Makes long q bs read numbers hashes r numbers' hashes' → IsRead q bs numbers hashes read k r.store numbers' hashes'
  is-read (got c rest) k e m = record { c = c; rest = rest; is = refl; made = rw e at m }
  is-read cut_short k e m = let x : ◌≡◌ {A = Result Called Refusal} (Err BadTrace) (Ok k) = ap (λ (s : Made). s.call) (sym m.0) ∙ e in cc
  is-read bad k e m = let x : ◌≡◌ {A = Result Called Refusal} (Err BadTrace) (Ok k) = ap (λ (s : Made). s.call) (sym m.0) ∙ e in cc

  pub not_read : (read : ReadCall) (x : Refusal) → r.call ≡ Err x → Makes long q bs read numbers hashes r numbers' hashes' → NotRead read × (r.store ≡ q)
  not_read (got c rest) x e m = absurd (rw e at m)
  not_read cut_short x e m = (tt, ap (λ (s : Made). s.store) m.0)
  not_read bad x e m = (tt, ap (λ (s : Made). s.store) m.0)

module _ (q : Quarantine) (bs : Bytes) (numbers hashes : List ℕ) (read : ReadCall) (k : Called) (store : Quarantine) (numbers' hashes' : List ℕ) (long-numbers : length numbers ≡ 1216) (long-hashes : length hashes ≡ 4096)
    (m : IsRead q bs numbers hashes read k store numbers' hashes') where
  -- the number, the counts and the store that it leads to
  pub call-leads : (n : Counts) →
      (number_of k.reply ≡ refusal_in (step (view_of q) (lent m.c)).1) × (counted_by n k.evicts k.reply numbers' ≡ plus_call n (view_of q) m.c) × (view_of store ≡ (step (view_of q) (lent m.c)).0)
  unfolding lent
  call-leads n =
      let g = rw (long-numbers, long-hashes) at m.made.steps in (
        reply-number k.reply ∙ ap number_said g.answer ∙ said-number _,
        rw (reply-counted n k.evicts k.reply numbers', g.answer, g.numbers_after, m.made.evicts) (adds (view_of q) (lent m.c) n numbers),
        g.store,
      )

  -- what it lists is in the slice
  pub list-fits : length numbers' ≡ 1216 → numbers_listed k.reply ≤ 1216
  unfolding lent
  list-fits e =
      let g = rw (long-numbers, long-hashes) at m.made.steps in
      let fits = written-fits (numbers_of long (step (view_of q) (lent m.c)).1) numbers numbers' g.numbers_after (e ∙ sym long-numbers) in
      rw (reply-listed k.reply, g.answer) (omega (arith, numbers-said (view_of q) (lent m.c), fits, long-numbers))

-- ---- what is read, a call or none

-- the number, the counts and the store that it leads to, as it is read
abbrev pub LeadsTo : Store → Counts → ReadCall → ℕ → Counts → Store → Type 0
LeadsTo s n (got c rest) number n' t = (number ≡ refusal_in (step s (lent c)).1) × (n' ≡ plus_call n s c) × (t ≡ (step s (lent c)).0)
LeadsTo s n cut_short number n' t = (number ≡ 19) × (n' ≡ n) × (t ≡ s)
LeadsTo s n bad number n' t = (number ≡ 19) × (n' ≡ n) × (t ≡ s)

-- the number of a call's reply, or that of the refusal where no call stands
abbrev pub number_made : Result Called Refusal → ℕ
number_made (Ok k) = number_of k.reply
number_made (Err x) = refusal_number x

-- the counts after it
abbrev pub counts_made : Counts → Result Called Refusal → List ℕ → Counts
counts_made n (Ok k) numbers = counted_by n k.evicts k.reply numbers
counts_made n (Err x) numbers = n

module _ (q : Quarantine) (bs : Bytes) (numbers hashes : List ℕ) (numbers' hashes' : List ℕ) (long-numbers : length numbers ≡ 1216) (long-hashes : length hashes ≡ 4096) where
  pub leads-to : (read : ReadCall) (n : Counts) (call : Result Called Refusal) (store : Quarantine) →
      Makes long q bs read numbers hashes (record { call = call; store = store }) numbers' hashes' →
      LeadsTo (view_of q) n read (number_made call) (counts_made n call numbers') (view_of store)
  leads-to (got c rest) n (Ok k) store m =
      call-leads q bs numbers hashes (got c rest) k store numbers' hashes' long-numbers long-hashes (record { c = c; rest = rest; is = refl; made = m }) n
  leads-to (got c rest) n (Err x) store m = absurd m
  leads-to cut_short n call store m =
      (ap (λ (s : Made). number_made s.call) m.0, ap (λ (s : Made). counts_made n s.call numbers') m.0, ap (λ (s : Made). view_of s.store) m.0)
  leads-to bad n call store m =
      (ap (λ (s : Made). number_made s.call) m.0, ap (λ (s : Made). counts_made n s.call numbers') m.0, ap (λ (s : Made). view_of s.store) m.0)

-- ---- the counts

-- a call adds at most 1,217 to each
pub record Few (n : Counts) (calls : ℕ) : Type 0 where
  pub accepts : n.accepted ≤ 1217 * calls
  pub rescues : n.rescued ≤ 1217 * calls
  pub kills : n.dead ≤ 1217 * calls
  pub evicts : n.evicted ≤ 1217 * calls

module _ (n : Counts) (calls : ℕ) (few : Few n calls) where
  few-more : (a r d e : ℕ) → a ≤ 1217 → r ≤ 1217 → d ≤ 1217 → e ≤ 1217 → Few (plus n a r d e) (calls + 1)
  few-more a r d e ha hr hd he =
      record { accepts = omega (arith, few.accepts); rescues = omega (arith, few.rescues); kills = omega (arith, few.kills); evicts = omega (arith, few.evicts) }

  few-still : Few (plus n 0 0 0 0) (calls + 1)
  few-still = few-more 0 0 0 0 (omega arith) (omega arith) (omega arith) (omega arith)

  few-said : (b : Bool) (a : Said) (numbers : List ℕ) → numbers_said a ≤ 1216 → Few (counted n b a numbers) (calls + 1)
  unfolding row_width
  few-said b (says_total m) numbers h = few-more 1 0 0 0 (omega arith) (omega arith) (omega arith) (omega arith)
  few-said b (says_rows long m) numbers h = few-more 0 (rescue_rows 19 m numbers) 0 0 (omega arith) (omega (arith, rescue-rows-few 19 m numbers)) (omega arith) (omega arith)
  few-said b (says_rows short m) numbers h = few-more 0 (rescue_rows 5 m numbers) 0 0 (omega arith) (omega (arith, rescue-rows-few 5 m numbers)) (omega arith) (omega arith)
  few-said b says_recorded numbers h = few-still
  few-said b (says_entered f a m) numbers h = few-still
  few-said true (says_frames m) numbers h = few-more 0 0 0 m (omega arith) (omega arith) (omega arith) (omega arith)
  few-said false (says_frames m) numbers h = few-still
  few-said b (says_dead m) numbers h = few-more 0 0 m 0 (omega arith) (omega arith) (omega arith) (omega arith)
  few-said b (says_refused m) numbers h = few-still

  pub few-after : (b : Bool) (r : Reply) (numbers : List ℕ) → numbers_listed r ≤ 1216 → Few (counted_by n b r numbers) (calls + 1)
  few-after b (Answered a) numbers h = few-said b (heard a) numbers h
  few-after b (Entered whose) numbers h = rw (nothing-added n) few-still

  -- there is room for one more call
  pub few-below : calls ≤ 6553 → Below n 1217
  few-below h = record { accepts = omega (arith, few.accepts); rescues = omega (arith, few.rescues); kills = omega (arith, few.kills); evicts = omega (arith, few.evicts) }

pub few-none : Few zero 0
few-none = record { accepts = omega arith; rescues = omega arith; kills = omega arith; evicts = omega arith }
