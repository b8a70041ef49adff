-- What a poll makes of an entry, by what is decided of it as if no guard matched, and by its guard.
use Prim.Native.Nat.{ℕ}
use mathlib.Core.Path.{◌≡◌, refl, sym, ap, ◌∙◌}
use mathlib.Core.Bool.{Bool, true, false, ◌&&◌}
use mathlib.Core.List.{List}
use Rattle.std.specs.Prelude.{Option, None, Some}
use Rattle.std.specs.Option.{option_eq}
use lib.Dec.{eqb}
use Rattle.lists.specs.Bytes.{Bytes, eq_bytes, eq_numbers}
use Rattle.store_rules.specs.Frames.{Entry, Guard, Row, Visit, is_tracked}
use Rattle.store_rules.specs.Poll.{Content, held_at, predecessors, boundary_holds, content_matches, guard_matches, row, stay, leave, poll_given, poll_rule}
use Rattle.store_rules.specs.Rules.{only_of}
use Rattle.store_rules.specs.Store.{guard_of}
use Rattle.store_rules.specs.View.{entry_of, Bodies}
use Rattle.store_rules.specs.declared.Entry as coded
use Rattle.store_rules.specs.declared.NonceConsumed.{NonceConsumed}
use Rattle.store_rules.specs.declared.FrameState.TheVariants.{Tracked, Tentative}
use Rattle.store_rules.proofs.PollCases.{PollCase, silent, consumed, holds, hold, waits, held_back, rescued, poll-case, poll-is}
use Rattle.decisions.specs.Courses.{visit_told, visit_of}
use Rattle.decisions.specs.declared.rows.Telling.{Telling}
use Rattle.decisions.specs.declared.rows.Telling.TheVariants.{Consumed, Hold, Waits, HeldBack, Rescued}

-- ---- the state

pub tracked-is : (e : coded.Entry) → e.state ≡ Tracked → is_tracked (entry_of e).standing.state ≡ true
unfolding is_tracked
tracked-is e s = rw s

pub tentative-is : (e : coded.Entry) (c : NonceConsumed) → e.state ≡ Tentative c → is_tracked (entry_of e).standing.state ≡ false
unfolding is_tracked
tentative-is e c s = rw s

-- whether it is held at this head
pub held-eq : (held : Option ℕ) (head : ℕ) → option_eq eqb held (Some head) ≡ held_at held head
unfolding held_at
held-eq None head = refl
held-eq (Some n) head = refl

-- ---- the tellings

-- only a rescued frame leaves
pub keeps : (t : Telling) → (t ≡ Rescued → ⊥) → (head : ℕ) (known : List ℕ) (e : Entry) → (visit_told t head known e).drops ≡ false
unfolding stay
keeps Consumed k head known e = refl
keeps Hold k head known e = refl
keeps Waits k head known e = refl
keeps HeldBack k head known e = refl
keeps Rescued k head known e = absurd (k refl)

pub silent-keeps : (head : ℕ) (known : List ℕ) (e : Entry) → (visit_of None head known e).drops ≡ false
unfolding stay
silent-keeps head known e = refl

-- ---- where the guard matters

module _ (head : ℕ) (known : List ℕ) (e : Entry) where
  -- it does not where the frame is not to be rescued
  steady : (guarded : Bool) (v : Visit Row) → PollCase head known false e v → v.drops ≡ false → v ≡ poll_given head known guarded e
  unfolding leave
  steady guarded v (silent t) h = poll-is head known guarded e (silent t)
  steady guarded v (consumed t y) h = poll-is head known guarded e (consumed t y)
  steady guarded v (holds t y x z) h = poll-is head known guarded e (holds t y x z)
  steady guarded v (hold t y x z) h = poll-is head known guarded e (hold t y x z)
  steady guarded v (waits t y x u) h = poll-is head known guarded e (waits t y x u)
  steady guarded v (held_back t y x u g) h = cc
  steady guarded v (rescued t y x u g) h = cc

  -- where it is, a guard that matches keeps it waiting for the same nonces
  saved : (v : Visit Row) → PollCase head known false e v → v.drops ≡ true → visit_of (Some HeldBack) head known e ≡ poll_given head known true e
  unfolding stay row
  saved v (silent t) h = cc
  saved v (consumed t y) h = cc
  saved v (holds t y x z) h = cc
  saved v (hold t y x z) h = cc
  saved v (waits t y x u) h = cc
  saved v (held_back t y x u g) h = cc
  saved v (rescued t y x u g) h = poll-is head known true e (held_back t y x u refl)

-- ---- an entry of the sender, or another's

-- without content no guard matches
no-content : (g : Option Guard) (preds : List ℕ) (expected : ℕ) → guard_matches g preds expected None ≡ false
unfolding guard_matches content_matches
no-content None preds expected = refl
no-content (Some g) preds expected = neither (eq_numbers g.predecessors preds) (boundary_holds g.kind expected)
  where
    neither : (a b : Bool) → (a && b && false) ≡ false
    neither true true = refl
    neither true false = refl
    neither false b = refl

-- whether the guard matches
abbrev pub matches : ℕ → Option Content → Option Guard → Entry → Bool
matches head content g e = guard_matches g (predecessors head e.frame) e.frame.expected content

module _ (sender : Bytes) (head : ℕ) (known : List ℕ) (content : Option Content) (g : Option Guard) (e : Entry) where
  -- the entry comes to this course
  abbrev Comes : Option Telling → Type 0
  Comes r = only_of sender (poll_rule head known content) g e ≡ visit_of r head known e

  pub other : eq_bytes e.frame.from sender ≡ false → Comes None
  unfolding only_of
  other h = rw h

  module _ (own : eq_bytes e.frame.from sender ≡ true) (r : Option Telling) (so : visit_of r head known e ≡ poll_given head known false e) where
    -- whatever the guard says
    pub any-guard : (visit_of r head known e).drops ≡ false → Comes r
    unfolding only_of poll_rule
    any-guard k = rw own (sym (so ∙ steady head known e (matches head content g e) (poll_given head known false e) (poll-case head known false e) (ap (λ (v : Visit Row). v.drops) (sym so) ∙ k)))

    pub no-match : matches head content g e ≡ false → Comes r
    unfolding only_of poll_rule
    no-match m = rw (own, m) (sym so)

    pub no-guard : content ≡ None → Comes r
    no-guard c = no-match (rw c (no-content g (predecessors head e.frame) e.frame.expected))

  pub guarded : eq_bytes e.frame.from sender ≡ true → visit_of (Some Rescued) head known e ≡ poll_given head known false e →
      matches head content g e ≡ true → Comes (Some HeldBack)
  unfolding only_of poll_rule leave
  guarded own so m =
      rw (own, m) (sym (saved head known e (poll_given head known false e) (poll-case head known false e) (ap (λ (v : Visit Row). v.drops) (sym so))))

-- whether the guard matches, as the code asks it of content that came
pub matched : (hash : Bytes) (guards : Bodies → List Guard) (bodies seen : Bodies) (content : Content) (own preds : List ℕ) (expected : ℕ) (r : Bool) →
    bodies ≡ seen → own ≡ preds → r ≡ guard_matches (guard_of hash (guards seen)) own expected (Some content) →
    guard_matches (guard_of hash (guards bodies)) preds expected (Some content) ≡ r
matched hash guards bodies seen content own preds expected r b p e = rw (b, ← p) (sym e)
