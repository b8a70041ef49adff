-- The arguments of the exported writers, and what these return, way by way.
use Prim.Native.Nat.{ℕ, ◌≤◌}
use native.Mathlib.Omega.{arith}
use mathlib.Core.Path.{◌≡◌, refl, sym, ap, ◌∙◌, subst}
use mathlib.Core.Bool.{Bool, true, false, cond}
use mathlib.Core.List.{List, [], ◌∷◌}
use Rattle.std.specs.Prelude.{None, Some}
use borrow.Author.Tests.{eqb-true}
use lib.Dec.{eqb, ltb}
use lib.ListN.{length}
use Rattle.lists.specs.Bytes.{Bytes}
use Rattle.lists.specs.Lists.{every, is_empty, written}
use Rattle.layout.specs.Layout.{size}
use Rattle.journal_record.specs.Reading.{Form, park, tentative_entry, resolve, legacy_park, other, layout_of, size_of}
use Rattle.journal_writer.specs.Writing.{Value, form_in, in_layout, wrote, Outcome, turned_away, write, bytes_of}
use Rattle.journal_exports.specs.Writers.{optional, given, Short, code_of, coded, exported_write}

-- ---- optional fields

is-empty : (bs : Bytes) → length bs ≡ 0 → is_empty bs ≡ true
unfolding is_empty
is-empty [] h = refl
is-empty (b ∷ bs) h = absurd (omega arith)

not-empty : (bs : Bytes) → (length bs ≡ 0 → ⊥) → is_empty bs ≡ false
unfolding is_empty
not-empty [] h = absurd (h refl)
not-empty (b ∷ bs) h = refl

module _ (w : ℕ) (bs : Bytes) where
  pub optional-none : length bs ≡ 0 → true ≡ optional w bs
  unfolding optional
  optional-none h = rw (is-empty bs h)

  module _ (there : length bs ≡ 0 → ⊥) where
    pub optional-some : eqb (length bs) w ≡ optional w bs
    unfolding optional
    optional-some = rw (not-empty bs there)

    pub optional-long : optional w bs ≡ true → length bs ≡ w
    unfolding optional
    optional-long h = eqb-true (length bs) w (rw (not-empty bs there) at h)

pub given-none : (bs : Bytes) → length bs ≡ 0 → None ≡ given bs
unfolding given
given-none bs h = rw (is-empty bs h)

pub given-some : (bs : Bytes) → (length bs ≡ 0 → ⊥) → Some bs ≡ given bs
unfolding given
given-some bs h = rw (not-empty bs h)

-- ---- what the call returns

form-short : (form : Form) → size_of form ≤ 256
unfolding size_of layout_of size
form-short park = omega arith
form-short tentative_entry = omega arith
form-short resolve = omega arith
form-short legacy_park = omega arith
form-short other = omega arith

pub answer-short : (x : Value) (out : Bytes) (o : Outcome) → o ≡ write x out → Short o.answer
unfolding write
answer-short x out o e = subst (λ (p : Outcome). Short p.answer) (sym e) (go (in_layout x) (ltb (length out) (size_of (form_in x))))
  where
    go : (b c : Bool) → Short (cond b (cond c (turned_away 13 out) (record { answer = wrote (size_of (form_in x)); out = written (bytes_of x) out })) (turned_away 11 out)).answer
    go true true = tt
    go true false = form-short (form_in x)
    go false c = tt

module _ (tests : List Bool) (x : Value) (out : Bytes) (code : ℕ) where
  pub refused_as : code ≡ 11 → every tests ≡ false → record { code = code; out = out } ≡ exported_write tests x out
  unfolding exported_write code_of
  refused_as e f = rw (e, f)

  pub written_as : (o : Outcome) → code ≡ code_of o.answer → o ≡ write x out → every tests ≡ true → record { code = code; out = o.out } ≡ exported_write tests x out
  unfolding exported_write
  written_as o e w t = rw t ((λ i. record { code = e i; out = o.out }) ∙ ap coded w)
