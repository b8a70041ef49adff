-- The proofs of `Refolding` and `NoSixteen`.
use Prim.Native.Nat.{ℕ, zero, suc, ◌+◌, ◌*◌, ◌≤◌}
use native.Mathlib.Omega.{arith}
use mathlib.Core.Path.{◌≡◌, refl, sym, ap, ◌∙◌}
use mathlib.Core.Bool.{Bool, true, false, ◌&&◌, not, false≢true}
use mathlib.Core.List.{List, [], ◌∷◌, ◌++◌, append_assoc, append-nil}
use Rattle.std.specs.Prelude.{Option, None, Some}
use lib.Dec.{eqb}
use lib.ListN.{length, take, length-append}
use lib.Seq.{take_at, drop_at}
use borrow.Author.Tests.{le-ltb, eq-eqb}
use Rattle.lists.specs.Bytes.{Bytes, eq_bytes, Before}
use Rattle.lists.specs.Lists.{Each, collect}
use Rattle.lists.proofs.ByteOrder.{eq_bytes-sym, before-not-after}
use Rattle.lists.proofs.Keeping.{each_append, each_map}
use Rattle.wire.specs.HashText.{parse_hash}
use Rattle.layout.specs.Layout.{size, join}
use Rattle.journal_record.specs.Records.{Fidelity, full, degraded, Park, park_mark}
use Rattle.journal_record.specs.Reading.{park, form_of, layout_of, size_of, accepted, is_park}
use Rattle.journal_writer.specs.Writing.{form_in, park_value, park_fields, fields_of, bytes_of, park_bytes}
use Rattle.journal_writer.proofs.Back.{reads-back, value-fits, value-long, park-back}
use Rattle.gap_quarantine_journal.specs.Pending.{put_park, is_non_zero, is_full, full_or, settled_fidelity}
use Rattle.gap_quarantine_journal.specs.Fold.{Folded, begin, read, keep64, apply_park, apply, step_whole, step_of, folded, after, fold_from, output}
use Rattle.gap_quarantine_journal.specs.Restore.{refused, restore_degraded, restore_full, restore_as, restore_hash, restore_park, restore}
use Rattle.journal_laws.specs.Keys.{Ascending}
use Rattle.journal_laws.specs.Refolding.{Refolding, NoSixteen}
use Rattle.journal_laws.proofs.Steps.{sizes, step-whole}
use Rattle.journal_laws.proofs.Folds.{fold-none, folds, folds-of}
use Rattle.journal_laws.proofs.KeyOrder.{fold-order}
use Rattle.journal_laws.proofs.Settling.{Settled, settled-stays, fold-settled}

-- ---- one record of the output

-- what has been folded, with totals of 0
abbrev only : List Park → Folded
only ps = record { pending = ps; counts = begin.counts }

mark : (p : Park) (rest : Bytes) → take 2 (park_bytes p ++ rest) ≡ park_mark
unfolding bytes_of join fields_of park_fields
mark p rest = refl

park-form : form_of park_mark ≡ Some park
unfolding form_of eq_bytes
park-form = refl

park-long : (p : Park) → Settled p → length (park_bytes p) ≡ 240
unfolding form_in
park-long p h = value-long (park_value p) h.sizes ∙ sizes.0

module _ (p : Park) (h : Settled p) where
  park-accepted : accepted park (park_bytes p) ≡ true
  unfolding form_in
  park-accepted = (reads-back (park_value p) h.sizes).accepts

  step-written : (qs : List Park) → length (put_park p qs) ≤ 64 → step_whole park (park_bytes p) (only qs) ≡ read 240 (only (put_park p qs))
  unfolding step_whole apply apply_park keep64
  step-written qs l =
      rw (park-accepted, park-back p h.sizes, settled-stays p h, le-ltb 64 (length (put_park p qs)) l, sizes.0)

  step-output : (rest : Bytes) (qs : List Park) → length (put_park p qs) ≤ 64 → step_of (park_bytes p ++ rest) (only qs) ≡ read 240 (only (put_park p qs))
  step-output rest qs l =
      let a = length-append (park_bytes p) rest in
      let b = park-long p h in
      let c = sizes.0 in
      step-whole (park_bytes p ++ rest) (only qs) (omega arith) park (ap form_of (mark p rest) ∙ park-form) (omega arith)
      ∙ ap (λ (x : Bytes). step_whole park x (only qs)) (take_at (park_bytes p) rest (size_of park) (b ∙ sym c)) ∙ step-written qs l

-- a key after all others goes to the end
put_last : (qs : List Park) (p : Park) (ps : List Park) → Ascending (qs ++ (p ∷ ps)) → put_park p qs ≡ qs ++ (p ∷ [])
unfolding put_park
put_last [] p ps h = refl
put_last (q ∷ qs) p ps h =
    let b = (each_append (λ x. Before q.text x.text) qs (p ∷ ps) h.0).1.0 in
    rw (eq_bytes-sym p.text q.text, b.1, before-not-after q.text p.text b, put_last qs p ps h.1)

-- ---- the whole output

length-output : (ps : List Park) → Each Settled ps → length (output ps) ≡ 240 * length ps
unfolding output collect
length-output [] h = refl
length-output (p ∷ ps) h =
    let a = length-append (park_bytes p) (output ps) in
    let b = park-long p h.0 in
    let c = length-output ps h.1 in
    omega arith

refold : (k : ℕ) (qs ps : List Park) (at : ℕ) → length ps ≤ k → Each Settled ps → Ascending (qs ++ ps) → length (qs ++ ps) ≤ 64 →
    fold_from k (output ps) at (only qs) ≡ folded (only (qs ++ ps)) (at + length (output ps))
unfolding fold_from after output collect
refold k qs [] at l h a n = let e : at + 0 ≡ at = omega arith in fold-none k [] at (only qs) (omega arith) ∙ rw (append-nil, e)
refold zero qs (p ∷ ps) at l h a n = absurd (omega arith)
refold (suc k) qs (p ∷ ps) at l h a n =
    let put : put_park p qs ≡ qs ++ (p ∷ []) = put_last qs p ps a in
    let more : (qs ++ (p ∷ [])) ++ ps ≡ qs ++ (p ∷ ps) = append_assoc qs (p ∷ []) ps in
    let x = length-append (qs ++ (p ∷ [])) ps in
    let y = ap length more in
    let few : length (put_park p qs) ≤ 64 = rw put (omega arith) in
    let z = length-append (park_bytes p) (output ps) in
    let b = park-long p h.0 in
    let end : at + 240 + length (output ps) ≡ at + length (park_bytes p ++ output ps) = omega arith in
    rw (step-output p h.0 (output ps) qs few, put, drop_at (park_bytes p) (output ps) 240 b, ← end, ← more)
    (refold k (qs ++ (p ∷ [])) ps (at + 240) (omega arith) h.1 (rw more a) (omega arith))

pub refolding : Refolding
unfolding begin
refolding journal room s end bytes h =
    let f = folds journal room s end h in
    let o = fold-order (length journal) journal 0 s end f.from in
    let g = fold-settled (length journal) journal 0 s end bytes f.from in
    let l = length-output s.pending g in
    let e : 0 + length (output s.pending) ≡ length (output s.pending) = omega arith in
    folds-of (output s.pending) room (only s.pending) (length (output s.pending)) (record {
      short = omega arith;
      from = rw e at (refold (length (output s.pending)) [] s.pending 0 (omega arith) g o.ascending o.few);
      fitting = f.fitting;
    })

-- ---- restore of a settled record

module _ (p : Park) (h : Settled p) where
  park-restored : restore (park_bytes p) ≡ restore_park p
  unfolding restore is_park size_of layout_of size form_in
  park-restored = rw (eq-eqb (length (park_bytes p)) 240 (park-long p h), value-fits (park_value p) h.sizes, park-back p h.sizes)

full_is : (b : Bool) → full_or b ≡ full → b ≡ true
unfolding full_or
full_is true h = refl
full_is false h = let z : ◌≡◌ {A = ℕ} 0 1 = cc in absurd (omega arith)

-- what the full rule says of from and wire
full-rule : (a b c d w l : Bool) → (a && b && c && d && w && l) ≡ true → (b ≡ true) × (w ≡ true)
full-rule true true true true true l h = (refl, refl)
full-rule true true true true false l h = absurd (false≢true h)
full-rule true true true false w l h = absurd (false≢true h)
full-rule true true false d w l h = absurd (false≢true h)
full-rule true false c d w l h = absurd (false≢true h)
full-rule false b c d w l h = absurd (false≢true h)

module _ (p : Park) (hash : Bytes) where
  full-restored : (o : Option Bytes) → is_non_zero o ≡ true → p.wire ≡ true → restore_full p hash o ≡ refused 16 → ⊥
  unfolding is_non_zero restore_full
  full-restored None n w h = false≢true n
  full-restored (Some from) n w h = let z : ◌≡◌ {A = ℕ} 0 1 = cc (rw w at h) in omega arith

  degraded-restored : (o : Option Bytes) → restore_degraded p hash o ≡ refused 16 → ⊥
  unfolding restore_degraded
  degraded-restored None h = let z : ◌≡◌ {A = ℕ} 15 16 = cc in omega arith
  degraded-restored (Some sender) h = let z : ◌≡◌ {A = ℕ} 0 1 = cc in omega arith

  not-sixteen : (f : Fidelity) → settled_fidelity f p ≡ f → restore_as f p hash ≡ refused 16 → ⊥
  unfolding settled_fidelity is_full restore_as
  not-sixteen degraded s h = degraded-restored p.sender h
  not-sixteen full s h =
      let r = full-rule (is_non_zero (parse_hash p.text)) (is_non_zero p.from) (not (eqb p.chain_id 0)) (not (eqb p.gas 0)) p.wire p.list (full_is _ s) in
      full-restored p.from r.0 r.1 h

never-sixteen : (p : Park) → Settled p → restore_park p ≡ refused 16 → ⊥
unfolding restore_park restore_hash
never-sixteen p s h = go (parse_hash p.text) h
  where
    go : (o : Option Bytes) → restore_hash o p ≡ refused 16 → ⊥
    go None q = let z : ◌≡◌ {A = ℕ} 14 16 = cc in omega arith
    go (Some hash) q = not-sixteen p hash p.fidelity s.stable q

pub no-sixteen : NoSixteen
no-sixteen journal room s end bytes h =
    each_map Settled _ s.pending (λ p g. (park-restored p g, never-sixteen p g))
    (fold-settled (length journal) journal 0 s end bytes (folds journal room s end h).from)
