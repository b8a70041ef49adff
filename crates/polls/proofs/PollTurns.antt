-- The turns of a poll's pass.
use Prim.Native.Nat.{ℕ, ◌+◌, ◌-◌, ◌*◌, ◌≤◌, ◌<◌, min}
use native.Mathlib.Nat.{zero-mul}
use native.Mathlib.Omega.{arith}
use mathlib.Core.Path.{◌≡◌, refl, sym, ap, ap₂, ◌∙◌}
use mathlib.Core.Bool.{true, false}
use Rattle.std.specs.Prelude.{Option, None, Some}
use mathlib.Core.List.{List, [], ◌∷◌, ◌++◌, map, append-nil}
use lib.ListN.{length, take, drop, get_or, set, length-drop, drop_of_length-le}
use lib.Seq.{set-get_or, take_all}
use Rattle.lists.specs.Bytes.{Bytes}
use Rattle.lists.specs.Lists.{written, written_at}
use Rattle.lists.proofs.Compacting.{clamp}
use Rattle.store_rules.specs.Frames.{Entry, Guard, Row, Visit}
use Rattle.store_rules.specs.Poll.{stay, leave, poll_rule}
use Rattle.store_rules.specs.Rules.{only_of}
use Rattle.store_rules.specs.Lookup.{entries_of}
use Rattle.store_rules.specs.Store.{RowForm, row_width, guard_of, drop_guard}
use Rattle.store_rules.specs.Answers.{row_numbers}
use Rattle.store_rules.specs.View.{frame_of, entry_of, labels_of, live_of, Bodies, bodies_of}
use Rattle.store_rules.proofs.PollRows.{few-rows}
use Rattle.store_rules.proofs.InPlace.{Going, start, silent, one_left, number-room, kept, left, done}
use Rattle.guards.specs.Recording.{bodies_in}
use Rattle.decisions.specs.Courses.{form_of, row_of, staying_as, visit_told}
use Rattle.decisions.specs.Polls.{content_given, LendsBodies}
use Rattle.decisions.proofs.RowNumbers.{row-width}
use Rattle.polls.specs.Promises.{Passes}
use Rattle.store_rules.specs.declared.Entry as coded
use Rattle.store_rules.specs.declared.Held.{Held}
use Rattle.decisions.specs.declared.asked.Given.{Given}
use Rattle.decisions.specs.declared.asked.Poll.{Poll}
use Rattle.decisions.specs.declared.rows.Telling.{Telling}
use Rattle.decisions.specs.declared.rows.Telling.TheVariants.{Consumed, Hold, Waits, HeldBack, Rescued}
use Rattle.decisions.specs.declared.rows.RowForm as coded-form

-- ---- the visit that a row tells of

module _ (head : ℕ) (known : List ℕ) (e : Entry) where
  visits-stay : (t : Telling) → (t ≡ Rescued → ⊥) →
      visit_told t head known e ≡ stay (staying_as t head e.standing) (row_of t head known e.frame ∷ [])
  visits-stay Consumed k = refl
  visits-stay Hold k = refl
  visits-stay Waits k = refl
  visits-stay HeldBack k = refl
  visits-stay Rescued k = absurd (k refl)

  one-row : (t : Telling) → (visit_told t head known e).lists ≡ row_of t head known e.frame ∷ []
  unfolding stay leave
  one-row Consumed = refl
  one-row Hold = refl
  one-row Waits = refl
  one-row HeldBack = refl
  one-row Rescued = refl

-- a row at the front of what lies from its place on
pub put-row : (at place : ℕ) (row rows rest : List ℕ) → at ≡ place → rest ≡ written row (take (length rows - at) (drop at rows)) →
    take at rows ++ (rest ++ drop (length rows - at) (drop at rows)) ≡ written_at place row rows
put-row at place row rows rest e h =
    let size : length (drop at rows) ≡ length rows - at = length-drop at rows in
    let whole : take (length rows - at) (drop at rows) ≡ drop at rows = take_all (length rows - at) (drop at rows) (omega (arith, size)) in
    let past : drop (length rows - at) (drop at rows) ≡ [] = drop_of_length-le (drop at rows) (omega (arith, size)) in
    rw (h, whole, past, append-nil, e)

-- ---- the loop

-- some bodies that are lent
some-bodies : (g : Option Given) → (b : Bodies) × LendsBodies g b
some-bodies None = (bodies_of [] [], tt)
some-bodies (Some g) = (bodies_in g.bodies.now, refl)

module _ (form : RowForm) (p : Poll) where
  abbrev rule : Option Guard → Entry → Visit Row
  rule = only_of p.sender (poll_rule p.head p.known.now (content_given p.given))

  -- its state: rows of so many numbers and no bytes
  abbrev pub Polling : ℕ → ℕ → List coded.Entry → Bytes → ℕ → List ℕ → List coded.Entry → Bytes → List ℕ → ℕ → ℕ → ℕ → Type 0
  Polling len guards entries₀ labels₀ many rows₀ entries labels rows n w i =
      Going rule (row_numbers form) (λ r. []) (row_width form) 0 (LendsBodies p.given) len guards entries₀ labels₀ many rows₀ [] entries labels rows [] n w i

  pub begins : (len guards : ℕ) (entries : List coded.Entry) (labels : Bytes) (many : ℕ) (rows : List ℕ) → len ≤ 64 → many ≡ length (entries_of p.sender (map entry_of (take len entries))) →
      row_width form * many ≤ length rows → length entries ≡ 64 → Polling len guards entries labels many rows entries labels rows 0 0 0
  begins len guards entries labels many rows fits counts room whole =
      start rule (row_numbers form) (λ r. []) (row_width form) 0 (LendsBodies p.given) len guards entries labels many rows []
      (record {
        bodies = (some-bodies p.given).0;
        lent = (some-bodies p.given).1;
        fits = fits;
        bound = λ b l. omega (arith, few-rows p.sender p.head p.known.now (content_given p.given) (map entry_of (take len entries)) (live_of (take guards (labels_of labels)) b));
        numbers = room;
        bytes = omega arith;
      })
      whole

  module _ (len guards : ℕ) (entries₀ : List coded.Entry) (labels₀ : Bytes) (many : ℕ) (rows₀ : List ℕ) (entries : List coded.Entry) (labels : Bytes) (rows : List ℕ) (n w i : ℕ)
      (t : Polling len guards entries₀ labels₀ many rows₀ entries labels rows n w i) (d : coded.Entry) (more : i < len) where
    -- what the poll makes of the entry, whatever the bodies are
    abbrev Visits : Visit Row → Type 0
    Visits v = (b : Bodies) → LendsBodies p.given b → rule (guard_of (get_or entries i d).frame.hash (live_of (take guards (labels_of labels)) b)) (entry_of (get_or entries i d)) ≡ v

    pub silent-one : Visits (stay (entry_of (get_or entries i d)).standing []) →
        Polling len guards entries₀ labels₀ many rows₀ (set entries w (get_or entries i d)) labels rows n (w + 1) (i + 1)
    silent-one v = silent _ _ _ _ _ _ len guards entries₀ labels₀ many rows₀ [] entries labels rows [] n w i t d more v

    -- nothing left before it
    pub silent-still : Visits (stay (entry_of (get_or entries i d)).standing []) → i ≤ w → Polling len guards entries₀ labels₀ many rows₀ entries labels rows n (w + 1) (i + 1)
    silent-still v h =
        let here : w ≡ i = omega (arith, t.behind) in
        let still : set entries w (get_or entries i d) ≡ entries = ap (λ (m : ℕ). set entries m (get_or entries i d)) here ∙ set-get_or entries i d in
        rw still at (silent-one v)

    module _ (tells : Telling) (told : Visits (visit_told tells p.head p.known.now (entry_of (get_or entries i d)))) where
      -- one row more fits
      pub room : (n < many) × (row_width form * n + row_width form ≤ length rows)
      room =
          let e : Entry = entry_of (get_or entries i d) in
          let v = visit_told tells p.head p.known.now e in
          let one : v ≡ record { stays = v.stays; drops = v.drops; lists = row_of tells p.head p.known.now e.frame ∷ [] } =
          λ j. record { stays = v.stays; drops = v.drops; lists = one-row p.head p.known.now e tells j } in (
            one_left _ _ _ _ _ _ len guards entries₀ labels₀ many rows₀ [] entries labels rows [] n w i t d more _ _ _ (λ b l. told b l ∙ one),
            number-room _ _ _ _ _ _ len guards entries₀ labels₀ many rows₀ [] entries labels rows [] n w i t d more _ _ _ (λ b l. told b l ∙ one),
          )

      module _ (rows' : List ℕ) (a : rows' ≡ written_at (row_width form * n) (row_numbers form (row_of tells p.head p.known.now (frame_of (get_or entries i d).frame))) rows) where
        pub stays-one : (tells ≡ Rescued → ⊥) → (y : coded.Entry) →
            entry_of y ≡ record { frame = frame_of (get_or entries i d).frame; standing = staying_as tells p.head (entry_of (get_or entries i d)).standing } →
            Polling len guards entries₀ labels₀ many rows₀ (set entries w y) labels rows' (n + 1) (w + 1) (i + 1)
        unfolding stay
        stays-one k y same =
            let e : Entry = entry_of (get_or entries i d) in
            kept _ _ _ _ _ _ len guards entries₀ labels₀ many rows₀ [] entries labels rows [] n w i t d more (Some (staying_as tells p.head e.standing)) false (row_of tells p.head p.known.now e.frame)
            (λ b l. told b l ∙ visits-stay p.head p.known.now e tells k) labels (λ b l. refl) rows' [] (row-width form tells p.head p.known.now e.frame) refl a (rw zero-mul) (staying_as tells p.head e.standing) y refl same

        pub leaves-one : tells ≡ Rescued → (labels' : Bytes) →
            ((b : Bodies) → live_of (take guards (labels_of labels')) b ≡ drop_guard (get_or entries i d).frame.hash (live_of (take guards (labels_of labels)) b)) →
            Polling len guards entries₀ labels₀ many rows₀ entries labels' rows' (n + 1) w (i + 1)
        unfolding leave
        leaves-one gone labels' drops =
            let e : Entry = entry_of (get_or entries i d) in
            left _ _ _ _ _ _ len guards entries₀ labels₀ many rows₀ [] entries labels rows [] n w i t d more None true (row_of Rescued p.head p.known.now e.frame) (λ b l. told b l ∙ rw gone) labels'
            (λ b l. sym (drops b)) rows' [] (row-width form Rescued p.head p.known.now e.frame) refl (a ∙ rw gone) (rw zero-mul) refl

-- ---- the pass ends

pub passes : (form : coded-form.RowForm) (p : Poll) (q q' : Held) (before after : List ℕ) (many n w i : ℕ) → length q.entries ≡ 64 →
    Polling (form_of form) p (min q.len 64) q'.guards q.entries q.labels many before q'.entries q'.labels after n w i → min q.len 64 ≤ i → q'.guards ≡ q.guards →
    (bodies : Bodies) → LendsBodies p.given bodies →
    Passes form bodies q p before n (record { entries = q'.entries; len = w; labels = q'.labels; guards = q'.guards }) after
passes form p q q' before after many n w i whole t h same bodies lent =
    let all : take (min q.len 64) q.entries ≡ take q.len q.entries = clamp q.len 64 q.entries whole in
    let pass = rw (same, all) at (done _ _ _ _ _ _ (min q.len 64) q'.guards q.entries q.labels many before [] q'.entries q'.labels after [] n w i t h bodies lent) in
    record {
      store = rw same (ap₂ (λ (l : List Entry) (g : List Guard). record { entries = l; guards = g }) pass.stayed pass.guarded);
      counted = t.counted ∙ ap length pass.listed;
      wrote = t.numbers-listed.holds ∙ rw pass.listed;
    }
