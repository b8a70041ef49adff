-- What eviction, reorganisation and finality make of the held part: one rule for the three, and what its pass comes to.
use Prim.Native.Nat.{ℕ, ◌*◌, ◌≤◌}
use native.Mathlib.Omega.{arith}
use mathlib.Core.Path.{◌≡◌, refl, sym, ap, ap₂, ◌∙◌}
use mathlib.Core.Bool.{Bool, true, false, ◌||◌, true≢false}
use mathlib.Core.List.{List, [], ◌∷◌, map}
use Rattle.std.specs.Prelude.{Ok, Err}
use lib.Dec.{ltb}
use lib.ListN.{length, take, length-map}
use borrow.Author.Tests.{le-ltb, ltb-false}
use Rattle.lists.specs.Bytes.{Bytes}
use Rattle.lists.specs.Lists.{keep, collect, written}
use Rattle.refusal.specs.declared.Refusal.TheVariants.{ShortSlice}
use Rattle.store_rules.specs.Frames.{Entry, Guard}
use Rattle.store_rules.specs.Rules.{only_of, evict_rule, reorg_rule, final_rule}
use Rattle.store_rules.specs.Store.{Store, Call, long, Answer, frames, dead, Walked, walk, walked, effect, input_refusal, room_refusal, refusal, when, unless, listed, step}
use Rattle.store_rules.specs.Answers.{says_frames, says_dead, says_refused, said, numbers_of, bytes_of, ticket_numbers, dead_numbers, dead_bytes}
use Rattle.store_rules.specs.View.{entries_seen, guards_seen, held_view, labels_of, live_of, Bodies}
use Rattle.store_rules.proofs.Walking.{Ends}
use Rattle.decisions.specs.Selections.{call_of, selected, select_rule, dead_of, number_width, byte_width, numbers_for, bytes_for}
use Rattle.decisions.proofs.Selecting.{evict-selects, reorg-selects, final-selects, walk-map, select-count}
use Rattle.answers.specs.Promises.{heard, asked, HeldPerforms, Always}
use Rattle.gap_quarantine.specs.Promises.{answered}
use Rattle.store_rules.specs.declared.Entry as coded
use Rattle.store_rules.specs.declared.Held.{Held}
use Rattle.decisions.specs.declared.selection.Selection.{Selection}
use Rattle.decisions.specs.declared.selection.Selection.TheVariants.{OfSender, Reorganised, Finalized}
use Rattle.answers.specs.declared.Outcome.{Outcome}

-- ---- the step of a selection

-- what is answered of the entries that are listed
abbrev pub answer_with : Selection → List Entry → Answer
answer_with (OfSender a) l = frames (map (λ e. e.frame) l)
answer_with (Reorganised b h) l = frames (map (λ e. e.frame) l)
answer_with (Finalized b) l = dead (map dead_of l)

or-false : (b : Bool) → (b || false) ≡ b
or-false true = refl
or-false false = refl

one_number : (n m k : ℕ) → (ltb n (1 * k) || ltb m (0 * k)) ≡ ltb n k
one_number n m k =
    let a : 1 * k ≡ k = omega arith in
    let b : 0 * k ≡ 0 = omega arith in
    rw (a, b, le-ltb m 0 (omega arith)) (or-false (ltb n k))

abbrev walk_by : Selection → Store → Walked Entry
walk_by s st = walk (λ g. select_rule s) st.entries st.guards

-- the step, by how entries are selected
steps : (s : Selection) (st : Store) (n m : ℕ) →
    step st (record { call = call_of s; form = long; numbers = n; bytes = m })
    ≡ unless (when (ltb n (number_width s * length (walk_by s st).listed) || ltb m (byte_width s * length (walk_by s st).listed)) 5) st
    (record { entries = (walk_by s st).entries; guards = (walk_by s st).guards }, answer_with s (walk_by s st).listed)
unfolding step refusal input_refusal room_refusal effect walked listed
steps (OfSender a) st n m =
    rw
    (walk-map (λ x. x.frame) (only_of a evict_rule) (λ g. select_rule (OfSender a)) (λ g e. evict-selects g e a) st.entries st.guards, length-map, one_number n m (length (walk_by (OfSender a) st).listed))
steps (Reorganised b h) st n m =
    rw
    (walk-map (λ x. x.frame) (reorg_rule b h) (λ g. select_rule (Reorganised b h)) (λ g e. reorg-selects g e b h) st.entries st.guards, length-map, one_number n m (length (walk_by (Reorganised b h) st).listed))
steps (Finalized b) st n m =
    rw (walk-map dead_of (final_rule b) (λ g. select_rule (Finalized b)) (λ g e. final-selects g e b) st.entries st.guards, length-map)

-- ---- what is said and written

module _ {A B : Type 0} (f : A → B) (g : B → List ℕ) where
  collect-map : (l : List A) → collect g (map f l) ≡ collect (λ x. g (f x)) l
  unfolding collect
  collect-map [] = refl
  collect-map (x ∷ xs) = rw (collect-map xs)

nothing : (l : List Entry) → collect (λ e. let none : Bytes = [] in none) l ≡ []
unfolding collect
nothing [] = refl
nothing (x ∷ xs) = nothing xs

numbers_of_lem : (s : Selection) (l : List Entry) → numbers_of long (answer_with s l) ≡ collect (numbers_for s) l
unfolding numbers_of
numbers_of_lem (OfSender a) l = collect-map (λ e. e.frame) ticket_numbers l
numbers_of_lem (Reorganised b h) l = collect-map (λ e. e.frame) ticket_numbers l
numbers_of_lem (Finalized b) l = collect-map dead_of dead_numbers l

bytes-of : (s : Selection) (l : List Entry) → bytes_of (answer_with s l) ≡ collect (bytes_for s) l
unfolding bytes_of
bytes-of (OfSender a) l = sym (nothing l)
bytes-of (Reorganised b h) l = sym (nothing l)
bytes-of (Finalized b) l = collect-map dead_of dead_bytes l

said_of : (s : Selection) (n : ℕ) (l : List Entry) → n ≡ length l → heard (Ok (answered s n)) ≡ said long (answer_with s l)
unfolding said
said_of (OfSender a) n l e = ap says_frames (e ∙ sym (length-map l (λ x. x.frame)))
said_of (Reorganised b h) n l e = ap says_frames (e ∙ sym (length-map l (λ x. x.frame)))
said_of (Finalized b) n l e = ap says_dead (e ∙ sym (length-map l dead_of))

never-refused : (s : Selection) (n m : ℕ) → heard (Ok (answered s n)) ≡ says_refused m → ⊥
never-refused (OfSender a) n m e = let z : ◌≡◌ {A = ℕ} 0 1 = cc in omega arith
never-refused (Reorganised b h) n m e = let z : ◌≡◌ {A = ℕ} 0 1 = cc in omega arith
never-refused (Finalized b) n m e = let z : ◌≡◌ {A = ℕ} 0 1 = cc in omega arith

-- ---- the call

module _ (q : Held) (s : Selection) (numbers bytes : List ℕ) where
  abbrev count : ℕ
  count = length (keep (selected s) (entries_seen q))

  abbrev Short : Bool
  Short = ltb (length numbers) (number_width s * count) || ltb (length bytes) (byte_width s * count)

  -- the step, with the count
  step_is : (bodies : Bodies) →
      step (held_view bodies q) (asked long (call_of s) numbers bytes)
      ≡ unless (when Short 5) (held_view bodies q) (
        record {
          entries = (walk (λ g. select_rule s) (entries_seen q) (guards_seen bodies q)).entries;
          guards = (walk (λ g. select_rule s) (entries_seen q) (guards_seen bodies q)).guards;
        },
        answer_with s (walk (λ g. select_rule s) (entries_seen q) (guards_seen bodies q)).listed,
      )
  step_is bodies = steps s (held_view bodies q) (length numbers) (length bytes) ∙ rw (select-count s (entries_seen q) (guards_seen bodies q))

  pub short : Short ≡ true → Always q (call_of s) numbers bytes (record { answer = Err ShortSlice; store = q }) numbers bytes
  unfolding when unless said numbers_of bytes_of
  short t bodies =
      let u = step_is bodies in
      record { store = rw (u, t); answer = rw (u, t); numbers_after = rw (u, t); bytes_after = rw (u, t); kept = λ x e. refl }

  pub passed : Short ≡ false → (bodies : Bodies) (entries : List coded.Entry) (labels : Bytes) (told : List Entry) (n w : ℕ) (numbers' bytes' : List ℕ) →
      Ends (walk (λ g. select_rule s) (entries_seen q) (guards_seen bodies q)) entries (live_of (take q.guards (labels_of labels)) bodies) told w → n ≡ length told →
      numbers' ≡ written (collect (numbers_for s) told) numbers → bytes' ≡ written (collect (bytes_for s) told) bytes →
      HeldPerforms bodies q (call_of s) numbers bytes (record { answer = Ok (answered s n); store = record { entries = entries; len = w; labels = labels; guards = q.guards } }) numbers' bytes'
  unfolding when unless
  passed t bodies entries labels told n w numbers' bytes' pass many a b =
      let u = step_is bodies in
      record {
        store = rw (u, t) (ap₂ (λ (l : List Entry) (g : List Guard). record { entries = l; guards = g }) pass.stayed pass.guarded);
        answer = rw (u, t) (said_of s n _ (many ∙ ap length pass.listed));
        numbers_after = rw (u, t, numbers_of_lem s) (a ∙ rw pass.listed);
        bytes_after = rw (u, t, bytes-of s) (b ∙ rw pass.listed);
        kept = λ m e. absurd (never-refused s n m e);
      }

-- neither slice is too short
pub has_room : (a x b y : ℕ) → (ltb a x || ltb b y) ≡ false → (x ≤ a) × (y ≤ b)
has_room a x b y h = go (ltb a x) refl (ltb b y) refl h
  where
    go : (s : Bool) → ltb a x ≡ s → (t : Bool) → ltb b y ≡ t → (s || t) ≡ false → (x ≤ a) × (y ≤ b)
    go true p t q e = absurd (true≢false e)
    go false p true q e = absurd (true≢false e)
    go false p false q e = (ltb-false a x p, ltb-false b y q)

-- a call that takes no bytes
pub no_bytes : (q : Held) (call : Call) (numbers numbers' bytes' : List ℕ) (r : Outcome Held) → Always q call numbers [] r numbers' bytes' → length bytes' ≡ 0 → Always q call numbers [] r numbers' []
no_bytes q call numbers numbers' [] r p z = p
no_bytes q call numbers numbers' (b ∷ bs) r p z = absurd (omega arith)
