-- What one step of the fold can come to, for the bytes from a record on and for those bytes cut.
use Prim.Native.Nat.{ℕ, ◌≤◌, ◌<◌, min}
use native.Mathlib.Omega.{arith}
use mathlib.Core.Path.{◌≡◌, refl, ap, ◌∙◌}
use mathlib.Core.Bool.{Bool, true, false, cond}
use mathlib.Core.List.{List}
use Rattle.std.specs.Prelude.{Option, None, Some}
use lib.Dec.{leb, ltb}
use lib.ListN.{length, take, length-take}
use lib.Seq.{take-take}
use borrow.Author.Tests.{ltb-true, ltb-false, leb-true, leb-false, lt-ltb, le-ltb}
use Rattle.lists.specs.Bytes.{Bytes}
use Rattle.wire.specs.HashText.{canonical}
use Rattle.layout.specs.Layout.{size}
use Rattle.journal_record.specs.Records.{Park}
use Rattle.journal_record.specs.Reading.{Form, park, tentative_entry, resolve, legacy_park, other, form_of, layout_of, size_of, accepted, park_of, tentative_entry_of, resolve_of, legacy_of}
use Rattle.gap_quarantine_journal.specs.Pending.{put_park, remove_park, enter_park, settled, legacy_hash, legacy_claimed, migrated}
use Rattle.gap_quarantine_journal.specs.Fold.{Counts, Folded, Step, unfinished, refuse, read, keep64, apply_park, apply_tentative, apply_resolve, apply_legacy_as, apply_legacy, apply_other, apply, step_whole, step_form, step_of}
use Rattle.journal_laws.specs.Sizes.{Sizes}
use Rattle.journal_laws.specs.Rewriting.{whole_form, form_at}

-- ---- a whole record

-- a park record that the bytes of a record put
pub data Puts (bs : Bytes) : Park → Type 0 where
  parked : accepted park bs ≡ true → Puts bs (settled (park_of bs))
  moved : accepted legacy_park bs ≡ true → (hash : Bytes) (claimed : ℕ) → legacy_hash (legacy_of bs) ≡ Some hash →
      legacy_claimed (legacy_of bs) ≡ Some claimed → Puts bs (migrated hash claimed (legacy_of bs))

-- how the bytes of a record change the pending set
pub data Change (bs : Bytes) (ps : List Park) : List Park → Type 0 where
  same : Change bs ps ps
  put : (p : Park) → Puts bs p → length (put_park p ps) ≤ 64 → Change bs ps (put_park p ps)
  enter : accepted tentative_entry bs ≡ true →
      Change bs ps (enter_park (canonical (tentative_entry_of bs).hash) (tentative_entry_of bs).consumed ps)
  remove : (key : Bytes) → Change bs ps (remove_park key ps)

-- the numbers of refusals that have a record's place
pub data AtRecord : ℕ → Type 0 where
  unknown_mark : AtRecord 10
  outside_layout : AtRecord 11
  over_keys : AtRecord 12

data Whole (form : Form) (bs : Bytes) (s : Folded) (d : Step) : Type 0 where
  refuses : (n : ℕ) → AtRecord n → d ≡ refuse n → Whole form bs s d
  reads : (t : Folded) → accepted form bs ≡ true → Change bs s.pending t.pending → d ≡ read (size_of form) t → Whole form bs s d

keeps : (form : Form) (bs : Bytes) (s : Folded) (p : Park) (c : Counts) → accepted form bs ≡ true → Puts bs p → Whole form bs s (keep64 (size_of form) (put_park p s.pending) c)
unfolding keep64
keeps form bs s p c a h = go (ltb 64 (length (put_park p s.pending))) refl
  where
    go : (b : Bool) → ltb 64 (length (put_park p s.pending)) ≡ b → Whole form bs s (keep64 (size_of form) (put_park p s.pending) c)
    go true e = refuses 12 over_keys (rw e)
    go false e = reads (record { pending = put_park p s.pending; counts = c }) a (put p h (ltb-false 64 _ e)) (rw e)

applies : (form : Form) (bs : Bytes) (s : Folded) → accepted form bs ≡ true → Whole form bs s (apply form bs s)
unfolding apply apply_park apply_tentative apply_resolve apply_legacy apply_legacy_as apply_other
applies park bs s h = keeps park bs s (settled (park_of bs)) s.counts h (parked h)
applies tentative_entry bs s h = reads _ h (enter h) refl
applies resolve bs s h = reads _ h (remove (canonical (resolve_of bs).hash)) refl
applies legacy_park bs s h = go (legacy_hash (legacy_of bs)) (legacy_claimed (legacy_of bs)) refl refl
  where
    go : (o : Option Bytes) (n : Option ℕ) → legacy_hash (legacy_of bs) ≡ o → legacy_claimed (legacy_of bs) ≡ n →
        Whole legacy_park bs s (apply_legacy_as (size_of legacy_park) o n (legacy_of bs) s)
    go None n p q = reads _ h same refl
    go (Some hash) None p q = reads _ h same refl
    go (Some hash) (Some claimed) p q = keeps legacy_park bs s (migrated hash claimed (legacy_of bs)) _ h (moved h hash claimed p q)
applies other bs s h = reads _ h same refl

whole : (form : Form) (bs : Bytes) (s : Folded) → Whole form bs s (step_whole form bs s)
unfolding step_whole
whole form bs s = go (accepted form bs) refl
  where
    go : (b : Bool) → accepted form bs ≡ b → Whole form bs s (cond b (apply form bs s) (refuse 11))
    go true e = applies form bs s e
    go false e = refuses 11 outside_layout refl

-- ---- the bytes from a record on

pub sizes : Sizes
unfolding size_of layout_of size
sizes = (refl, refl, refl, refl, refl)

pub at-least-ten : (form : Form) → 10 ≤ size_of form
at-least-ten park = rw sizes.0 (omega arith)
at-least-ten tentative_entry = rw sizes.1 (omega arith)
at-least-ten resolve = rw sizes.2 (omega arith)
at-least-ten legacy_park = rw sizes.3 (omega arith)
at-least-ten other = rw sizes.4 (omega arith)

-- the record of this form that bytes begin with, whole and accepted
pub record Here (form : Form) (bs : Bytes) : Type 0 where
  pub room : size_of form ≤ length bs
  pub accepts : accepted form (take (size_of form) bs) ≡ true
  pub is : form_at bs ≡ Some form

pub data Stepped (bs : Bytes) (s : Folded) : Type 0 where
  stops : step_of bs s ≡ unfinished → form_at bs ≡ None → ((m : ℕ) → step_of (take m bs) s ≡ unfinished) → Stepped bs s
  refuses : (n : ℕ) → AtRecord n → 2 ≤ length bs → step_of bs s ≡ refuse n → Stepped bs s
  reads : (form : Form) (t : Folded) → Here form bs → Change (take (size_of form) bs) s.pending t.pending →
      step_of bs s ≡ read (size_of form) t →
      ((m : ℕ) → step_of (take m bs) s ≡ cond (leb (size_of form) m) (read (size_of form) t) unfinished) → Stepped bs s

pub step-short : (bs : Bytes) (s : Folded) → length bs < 2 → step_of bs s ≡ unfinished
unfolding step_of
step-short bs s h = rw (lt-ltb (length bs) 2 h)

step-marked : (bs : Bytes) (s : Folded) → 2 ≤ length bs → (o : Option Form) → form_of (take 2 bs) ≡ o → step_of bs s ≡ step_form o bs s
unfolding step_of
step-marked bs s h o e = rw (le-ltb (length bs) 2 h, e)

module _ (bs : Bytes) (s : Folded) (h : 2 ≤ length bs) (form : Form) (e : form_of (take 2 bs) ≡ Some form) where
  -- too few bytes for the form
  step_cut : length bs < size_of form → step_of bs s ≡ unfinished
  unfolding step_form
  step_cut l = step-marked bs s h (Some form) e ∙ rw (lt-ltb (length bs) (size_of form) l)

  pub step-whole : size_of form ≤ length bs → step_of bs s ≡ step_whole form (take (size_of form) bs) s
  unfolding step_form
  step-whole l = step-marked bs s h (Some form) e ∙ rw (le-ltb (length bs) (size_of form) l)

-- the form of the record that bytes begin with
form-none : (bs : Bytes) → length bs < 2 → form_at bs ≡ None
unfolding form_at
form-none bs h = rw (lt-ltb (length bs) 2 h)

module _ (bs : Bytes) (h : 2 ≤ length bs) (form : Form) (e : form_of (take 2 bs) ≡ Some form) where
  form-cut : length bs < size_of form → form_at bs ≡ None
  unfolding form_at whole_form
  form-cut l = rw (le-ltb (length bs) 2 h, e, lt-ltb (length bs) (size_of form) l)

  form-whole : size_of form ≤ length bs → accepted form (take (size_of form) bs) ≡ true → form_at bs ≡ Some form
  unfolding form_at whole_form
  form-whole l a = rw (le-ltb (length bs) 2 h, e, le-ltb (length bs) (size_of form) l, a)

-- the same bytes, cut
module _ (bs : Bytes) (s : Folded) (h : 2 ≤ length bs) (form : Form) (e : form_of (take 2 bs) ≡ Some form) (m : ℕ) where
  taken : length (take m bs) ≡ min m (length bs)
  taken = length-take m bs

  mark-kept : 2 ≤ m → form_of (take 2 (take m bs)) ≡ Some form
  mark-kept l = ap form_of (take-take 2 m bs l) ∙ e

  cut-before : min m (length bs) < size_of form → step_of (take m bs) s ≡ unfinished
  cut-before l = go (ltb m 2) refl
    where
      go : (b : Bool) → ltb m 2 ≡ b → step_of (take m bs) s ≡ unfinished
      go true q = step-short (take m bs) s (let p = ltb-true m 2 q in let t = taken in omega arith)
      go false q =
          let p : 2 ≤ m = ltb-false m 2 q in
          let t = taken in
          step_cut (take m bs) s (omega arith) form (mark-kept p) (omega arith)

  cut-behind : size_of form ≤ length bs → size_of form ≤ m → step_of (take m bs) s ≡ step_whole form (take (size_of form) bs) s
  cut-behind l k =
      let t = taken in
      let a = at-least-ten form in
      step-whole (take m bs) s (omega arith) form (mark-kept (omega arith)) (omega arith)
      ∙ ap (λ (x : Bytes). step_whole form x s) (take-take (size_of form) m bs k)

  cut-whole : size_of form ≤ length bs → (d : Step) → step_whole form (take (size_of form) bs) s ≡ d →
      step_of (take m bs) s ≡ cond (leb (size_of form) m) d unfinished
  cut-whole l d q = go (leb (size_of form) m) refl
    where
      go : (b : Bool) → leb (size_of form) m ≡ b → step_of (take m bs) s ≡ cond b d unfinished
      go true p = cut-behind l (leb-true (size_of form) m p) ∙ q
      go false p = let k = leb-false (size_of form) m p in cut-before (omega arith)

pub stepped : (bs : Bytes) (s : Folded) → Stepped bs s
unfolding step_form
stepped bs s = go (ltb (length bs) 2) refl
  where
    long : 2 ≤ length bs → (form : Form) → form_of (take 2 bs) ≡ Some form → size_of form ≤ length bs → Stepped bs s
    long h form e l = by (whole form (take (size_of form) bs) s)
      where
        by : Whole form (take (size_of form) bs) s (step_whole form (take (size_of form) bs) s) → Stepped bs s
        by (refuses n a q) = refuses n a h (step-whole bs s h form e l ∙ q)
        by (reads t a c q) =
            reads form t (record { room = l; accepts = a; is = form-whole bs h form e l a }) c (step-whole bs s h form e l ∙ q)
            (λ m. cut-whole bs s h form e m l (read (size_of form) t) q)

    marked : 2 ≤ length bs → (o : Option Form) → form_of (take 2 bs) ≡ o → Stepped bs s
    marked h None e = refuses 10 unknown_mark h (step-marked bs s h None e)
    marked h (Some form) e = sized (ltb (length bs) (size_of form)) refl
      where
        sized : (b : Bool) → ltb (length bs) (size_of form) ≡ b → Stepped bs s
        sized true q =
            let l = ltb-true (length bs) (size_of form) q in
            stops (step_cut bs s h form e l) (form-cut bs h form e l) (λ m. cut-before bs s h form e m (omega arith))
        sized false q = long h form e (ltb-false (length bs) (size_of form) q)

    go : (b : Bool) → ltb (length bs) 2 ≡ b → Stepped bs s
    go true q =
        let l = ltb-true (length bs) 2 q in
        stops (step-short bs s l) (form-none bs l) (λ m. step-short (take m bs) s (rw (length-take m bs) (omega arith)))
    go false q = marked (ltb-false (length bs) 2 q) (form_of (take 2 bs)) refl
