-- What a poll makes of the held part: its refusals, and what its pass comes to.
use Prim.Native.Nat.{ℕ, ◌*◌, ◌≤◌, ◌<◌}
use native.Mathlib.Omega.{arith}
use mathlib.Core.Path.{◌≡◌, refl, sym, ap, ◌∙◌}
use mathlib.Core.Bool.{Bool, true, false, ◌||◌, not}
use Rattle.std.specs.Prelude.{Option, None, Some, Ok, Err}
use mathlib.Core.List.{List, []}
use lib.Dec.{eqb, ltb}
use lib.ListN.{length}
use borrow.Author.Tests.{lt-ltb, le-ltb, eqb-true}
use Rattle.refusal.specs.declared.Refusal.TheVariants.{ManyKnown, BadContent, ShortSlice}
use Rattle.store_rules.specs.Poll.{Content}
use Rattle.store_rules.specs.Lookup.{entries_of}
use Rattle.store_rules.specs.Store.{RowForm, row_width, walked, effect, when, bad_content, input_refusal, room_refusal, refusal, unless, step}
use Rattle.store_rules.specs.Answers.{numbers_of, bytes_of, says_rows, says_refused, said}
use Rattle.store_rules.specs.View.{entries_seen, Bodies}
use Rattle.decisions.specs.Courses.{form_of}
use Rattle.decisions.specs.Polls.{content_given, IsWhole, asks}
use Rattle.answers.specs.Promises.{heard, HeldPerformsIn}
use Rattle.polls.specs.Promises.{Passes, rows_in}
use Rattle.store_rules.specs.declared.Held.{Held}
use Rattle.decisions.specs.declared.asked.Given.{Given}
use Rattle.decisions.specs.declared.asked.Poll.{Poll}
use Rattle.decisions.specs.declared.rows.RowForm as coded-form
use Rattle.decisions.specs.declared.rows.RowForm.TheVariants.{Long, Short}

-- ---- the answer

-- rows are no refusal
pub rows-not-refused : {form : RowForm} {n m : ℕ} → says_rows form n ≡ says_refused m → ⊥
rows-not-refused e = let z : ◌≡◌ {A = ℕ} 0 1 = cc in omega arith

rows-heard : (form : coded-form.RowForm) (n : ℕ) → heard (Ok (rows_in form n)) ≡ says_rows (form_of form) n
rows-heard Long n = refl
rows-heard Short n = refl

-- ---- the content

-- content that is not bad is whole hashes
whole-content : (c : Content) → bad_content (Some c) ≡ false → length c.hashes ≡ 32 * length c.nonces
unfolding bad_content
whole-content c h = go (ltb 64 (length c.nonces)) (eqb (length c.hashes) (32 * length c.nonces)) refl h
  where
    go : (a b : Bool) → eqb (length c.hashes) (32 * length c.nonces) ≡ b → (a || not b) ≡ false → length c.hashes ≡ 32 * length c.nonces
    go true b e h = let z : ◌≡◌ {A = ℕ} 0 1 = cc in absurd (omega arith)
    go false true e h = eqb-true _ _ e
    go false false e h = let z : ◌≡◌ {A = ℕ} 0 1 = cc in absurd (omega arith)

pub good-content : (g : Option Given) → bad_content (content_given g) ≡ false → IsWhole g
good-content None h = tt
good-content (Some g) h = whole-content _ h

-- ---- the call

module _ (form : coded-form.RowForm) (bodies : Bodies) (q : Held) (p : Poll) (before : List ℕ) where
  pub many-known : 256 < length p.known.now → HeldPerformsIn (form_of form) bodies q (asks p) before [] (record { answer = Err ManyKnown; store = q }) before []
  unfolding step refusal input_refusal when unless said numbers_of bytes_of
  many-known h = let t = lt-ltb _ _ h in record { store = rw t; answer = rw t; numbers_after = rw t; bytes_after = rw t; kept = λ x e. refl }

  module _ (few : length p.known.now ≤ 256) where
    pub content-bad : bad_content (content_given p.given) ≡ true → HeldPerformsIn (form_of form) bodies q (asks p) before [] (record { answer = Err BadContent; store = q }) before []
    unfolding step refusal input_refusal when unless said numbers_of bytes_of
    content-bad b = let t = le-ltb _ _ few in record { store = rw (t, b); answer = rw (t, b); numbers_after = rw (t, b); bytes_after = rw (t, b); kept = λ x e. refl }

    module _ (good : bad_content (content_given p.given) ≡ false) where
      pub short-slice : length before < row_width (form_of form) * length (entries_of p.sender (entries_seen q)) → HeldPerformsIn (form_of form) bodies q (asks p) before [] (record { answer = Err ShortSlice; store = q }) before []
      unfolding step refusal input_refusal room_refusal when unless said numbers_of bytes_of
      short-slice h =
          let t = le-ltb _ _ few in
          let s = lt-ltb _ _ h in
          record { store = rw (t, good, s); answer = rw (t, good, s); numbers_after = rw (t, good, s); bytes_after = rw (t, good, s); kept = λ x e. refl }

      pub polled : (n : ℕ) (q' : Held) (after : List ℕ) → row_width (form_of form) * length (entries_of p.sender (entries_seen q)) ≤ length before →
          Passes form bodies q p before n q' after → HeldPerformsIn (form_of form) bodies q (asks p) before [] (record { answer = Ok (rows_in form n); store = q' }) after []
      unfolding step refusal input_refusal room_refusal when unless effect walked said numbers_of bytes_of
      polled n q' after room pass =
          let t = le-ltb _ _ few in
          let s = le-ltb _ _ room in
          let says = rows-heard form n in
          record {
            store = rw (t, good, s) pass.store;
            answer = rw (t, good, s) (says ∙ ap (says_rows (form_of form)) pass.counted);
            numbers_after = rw (t, good, s) pass.wrote;
            bytes_after = rw (t, good, s);
            kept = λ x e. absurd (rows-not-refused (sym says ∙ e));
          }
