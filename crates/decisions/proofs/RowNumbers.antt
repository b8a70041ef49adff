-- The numbers of a row.
use Prim.Native.Nat.{ℕ, ◌≤◌}
use native.Mathlib.Omega.{arith}
use mathlib.Core.Path.{◌≡◌, refl, ap, ◌∙◌}
use mathlib.Core.Bool.{true, false}
use mathlib.Core.List.{List, [], ◌∷◌, ◌++◌}
use lib.Count.{ones}
use lib.ListN.{length, drop, replicate}
use lib.Seq.{drop-drop}
use Rattle.lists.specs.Lists.{keep, written}
use Rattle.lists.proofs.Keeping.{keep-each, each_of}
use Rattle.short_rows.specs.Mark.{mark_of}
use Rattle.store_rules.specs.Frames.{Frame}
use Rattle.store_rules.specs.Poll.{predecessors, unknown}
use Rattle.store_rules.specs.Store.{RowForm, long, short, row_width}
use Rattle.store_rules.specs.Answers.{decision_number, row_numbers}
use Rattle.store_rules.proofs.GapNonces.{preds-in-gap, unknown-in-gap, gap-few}
use Rattle.store_rules.proofs.RowForms.{row-length}
use Rattle.decisions.specs.Courses.{decision_of, nonces_of, is_listed, row_of}
use Rattle.decisions.specs.declared.rows.Telling.{Telling}
use Rattle.decisions.specs.declared.rows.Telling.TheVariants.{Consumed, Hold, Waits, HeldBack, Rescued}

-- ---- the nonces of a row

keep_all : (l : List ℕ) → keep (λ n. true) l ≡ l
keep_all l = keep-each (λ n. true) l (each_of (λ n. true ≡ true) l (λ x m. refl))

keep-nothing : (l : List ℕ) → keep (λ n. false) l ≡ []
unfolding keep
keep-nothing [] = refl
keep-nothing (x ∷ xs) = keep-nothing xs

pub nonces-are : (t : Telling) (head : ℕ) (known : List ℕ) (f : Frame) → keep (is_listed t known) (predecessors head f) ≡ nonces_of t head known f
unfolding unknown
nonces-are Consumed head known f = keep-nothing (predecessors head f)
nonces-are Hold head known f = refl
nonces-are Waits head known f = refl
nonces-are HeldBack head known f = keep_all (predecessors head f)
nonces-are Rescued head known f = keep_all (predecessors head f)

few-nonces : (t : Telling) (head : ℕ) (known : List ℕ) (f : Frame) → length (nonces_of t head known f) ≤ 16
few-nonces Consumed head known f = omega arith
few-nonces Hold head known f = gap-few f (unknown head known f) (unknown-in-gap head f known)
few-nonces Waits head known f = gap-few f (unknown head known f) (unknown-in-gap head f known)
few-nonces HeldBack head known f = gap-few f (predecessors head f) (preds-in-gap head f)
few-nonces Rescued head known f = gap-few f (predecessors head f) (preds-in-gap head f)

-- ---- the numbers of a row

pub row-width : (form : RowForm) (t : Telling) (head : ℕ) (known : List ℕ) (f : Frame) → length (row_numbers form (row_of t head known f)) ≡ row_width form
row-width form t head known f = row-length form (row_of t head known f) (few-nonces t head known f)

module _ (t : Telling) (head : ℕ) (known : List ℕ) (f : Frame) (decision : ℕ) (d : decision ≡ decision_number (decision_of t)) where
  -- a long row: its first three numbers, and then its nonces
  pub long-row : (count : ℕ) (nonces : List ℕ) → count ≡ length (nonces_of t head known f) → nonces ≡ written (nonces_of t head known f) (replicate 16 0) →
      f.ticket ∷ decision ∷ count ∷ nonces ≡ row_numbers long (row_of t head known f)
  unfolding row_numbers
  long-row count nonces c n = rw (n, c, d)

  -- a short row
  pub short_row : (mark count : ℕ) → mark ≡ mark_of f.expected (nonces_of t head known f) → count ≡ ones mark →
      f.ticket ∷ decision ∷ f.expected ∷ mark ∷ count ∷ [] ≡ row_numbers short (row_of t head known f)
  unfolding row_numbers
  short_row mark count m c = rw (d, c, m)

-- three numbers at the front, sixteen nonces after them, and what lies past them
pub long-whole : (x y z : ℕ) (nonces rows : List ℕ) → length nonces ≡ 16 → x ∷ y ∷ z ∷ (nonces ++ drop 16 (drop 3 rows)) ≡ written (x ∷ y ∷ z ∷ nonces) rows
long-whole x y z nonces rows e =
    let k : 19 ≡ length (x ∷ y ∷ z ∷ nonces) = omega (arith, e) in
    ap {B = List ℕ} (λ (rest : List ℕ). x ∷ y ∷ z ∷ (nonces ++ rest)) (drop-drop 16 3 rows ∙ ap {B = List ℕ} (λ (n : ℕ). drop n rows) k)
