-- The turns of the pass of eviction, reorganisation and finality.
use Prim.Native.Nat.{ℕ, ◌+◌, ◌*◌, ◌≤◌, ◌<◌, min}
use native.Mathlib.Omega.{arith}
use mathlib.Core.Path.{◌≡◌, refl, sym, ◌∙◌}
use mathlib.Core.Bool.{true, false, ◌||◌, true≢false}
use Rattle.std.specs.Prelude.{Option, None, Ok}
use mathlib.Core.List.{List, [], ◌∷◌, map}
use lib.Dec.{ltb}
use lib.ListN.{length, take, get_or, set}
use Rattle.lists.specs.Bytes.{Bytes}
use Rattle.lists.specs.Lists.{keep}
use Rattle.lists.proofs.Compacting.{clamp}
use Rattle.store_rules.specs.Frames.{State, tracked, tentative, Entry}
use Rattle.store_rules.specs.Poll.{stay}
use Rattle.store_rules.specs.View.{entry_of, entries_seen, labels_of, live_of, Bodies, bodies_of}
use Rattle.store_rules.specs.Store.{drop_guard}
use Rattle.store_rules.proofs.InPlace.{Going, start, silent, one_left, number-room, byte-room, kept, left, done}
use Rattle.decisions.specs.Selections.{call_of, ends, selected, select_rule, is_finality, revived, listed_as, stays_as, is_tentative, number_width, byte_width, numbers_for, bytes_for}
use Rattle.decisions.proofs.Selecting.{select-count, numbers-width, Lists}
use Rattle.answers.specs.Promises.{Always}
use Rattle.gap_quarantine.specs.Promises.{answered}
use Rattle.gap_quarantine.proofs.PassSteps.{passed}
use Rattle.store_rules.specs.declared.Entry as coded
use Rattle.store_rules.specs.declared.Held.{Held}
use Rattle.decisions.specs.declared.selection.Selection.{Selection}
use Rattle.decisions.specs.declared.selection.Selection.TheVariants.{OfSender, Reorganised, Finalized}

-- the state of its loop: whatever the bodies are
abbrev pub Passing : Selection → ℕ → ℕ → List coded.Entry → Bytes → ℕ → List ℕ → List ℕ → List coded.Entry → Bytes → List ℕ → List ℕ → ℕ → ℕ → ℕ → Type 0
Passing s len guards entries₀ labels₀ many numbers₀ bytes₀ =
    Going (λ g. select_rule s) (numbers_for s) (bytes_for s) (number_width s) (byte_width s) (λ b. Unit {0}) len guards entries₀ labels₀ many numbers₀ bytes₀

module _ (s : Selection) (e : Entry) where
  skips : selected s e ≡ false → select_rule s e ≡ stay e.standing []
  skips h = rw h

  takes : selected s e ≡ true → select_rule s e ≡ record { stays = stays_as s e; drops = true; lists = listed_as s e ∷ [] }
  takes h = rw h

-- what finality takes up is tentative
pub takes-tentative : (s : Selection) (e : Entry) → selected s e ≡ true → is_finality s ≡ true → is_tentative (listed_as s e).standing.state ≡ true
takes-tentative (OfSender a) e h is = absurd (true≢false (sym is))
takes-tentative (Reorganised b k) e h is = absurd (true≢false (sym is))
takes-tentative (Finalized b) e h is = in-state e.standing.state h
  where
    in-state : (z : State) → ends z b ≡ true → is_tentative z ≡ true
    in-state tracked q = q
    in-state (tentative c) q = refl

-- the pass begins, with room for all that are selected
pub begins : (s : Selection) (len guards : ℕ) (entries : List coded.Entry) (labels : Bytes) (many : ℕ) (numbers bytes : List ℕ) → len ≤ 64 →
    many ≡ length (keep (selected s) (map entry_of (take len entries))) → number_width s * many ≤ length numbers → byte_width s * many ≤ length bytes →
    length entries ≡ 64 → Passing s len guards entries labels many numbers bytes entries labels numbers bytes 0 0 0
begins s len guards entries labels many numbers bytes fits counts a b whole =
    start (λ g. select_rule s) (numbers_for s) (bytes_for s) (number_width s) (byte_width s) (λ b. Unit {0}) len guards entries labels many numbers bytes
    (record {
      bodies = bodies_of [] [];
      lent = tt;
      fits = fits;
      bound = λ b l. omega (arith, select-count s (map entry_of (take len entries)) (live_of (take guards (labels_of labels)) b));
      numbers = a;
      bytes = b;
    })
    whole

-- an eviction and finality let no entry stay
goes : (s : Selection) (e : Entry) → ((block : ℕ) (hash : Option Bytes) → s ≡ Reorganised block hash → ⊥) → stays_as s e ≡ None
goes (OfSender a) e k = refl
goes (Reorganised b h) e k = absurd (k b h refl)
goes (Finalized b) e k = refl

module _ (s : Selection) (len guards : ℕ) (entries₀ : List coded.Entry) (labels₀ : Bytes) (many : ℕ) (numbers₀ bytes₀ : List ℕ) (entries : List coded.Entry) (labels : Bytes)
    (numbers bytes : List ℕ) (n w i : ℕ) (t : Passing s len guards entries₀ labels₀ many numbers₀ bytes₀ entries labels numbers bytes n w i) (d : coded.Entry) (more : i < len) where
  pub skipped : selected s (entry_of (get_or entries i d)) ≡ false →
      Passing s len guards entries₀ labels₀ many numbers₀ bytes₀ (set entries w (get_or entries i d)) labels numbers bytes n (w + 1) (i + 1)
  skipped h = silent _ _ _ _ _ _ len guards entries₀ labels₀ many numbers₀ bytes₀ entries labels numbers bytes n w i t d more (λ b l. skips s (entry_of (get_or entries i d)) h)

  module _ (is : selected s (entry_of (get_or entries i d)) ≡ true) where
    -- one more of all that are selected, for which there is room
    pub room : (n < many) × (number_width s * n + number_width s ≤ length numbers) × (byte_width s * n + byte_width s ≤ length bytes)
    room =
        let v = takes s (entry_of (get_or entries i d)) is in (
          one_left _ _ _ _ _ _ len guards entries₀ labels₀ many numbers₀ bytes₀ entries labels numbers bytes n w i t d more _ _ _ (λ b l. v),
          number-room _ _ _ _ _ _ len guards entries₀ labels₀ many numbers₀ bytes₀ entries labels numbers bytes n w i t d more _ _ _ (λ b l. v),
          byte-room _ _ _ _ _ _ len guards entries₀ labels₀ many numbers₀ bytes₀ entries labels numbers bytes n w i t d more _ _ _ (λ b l. v),
        )

    module _ (f : coded.Entry) (same : entry_of f ≡ listed_as s (entry_of (get_or entries i d))) (labels' : Bytes)
        (drops : (b : Bodies) → live_of (take guards (labels_of labels')) b ≡ drop_guard (get_or entries i d).frame.hash (live_of (take guards (labels_of labels)) b)) (numbers' bytes' : List ℕ)
        (wrote : Lists s (entry_of f) n numbers bytes numbers' bytes') where
      pub revived-one : (block : ℕ) (hash : Option Bytes) → s ≡ Reorganised block hash → Passing s len guards entries₀ labels₀ many numbers₀ bytes₀ (set entries w f) labels' numbers' bytes' (n + 1) (w + 1) (i + 1)
      revived-one block hash by =
          let e : Entry = entry_of (get_or entries i d) in
          let seen : entry_of f ≡ revived e = same ∙ rw by in
          kept _ _ _ _ _ _ len guards entries₀ labels₀ many numbers₀ bytes₀ entries labels numbers bytes n w i t d more _ true (listed_as s e) (λ b l. takes s e is) labels' (λ b l. sym (drops b)) numbers' bytes'
          (numbers-width s _) (rw same at wrote.2) (rw same at wrote.0) (rw same at wrote.1) (revived e).standing f (rw by) seen

      pub left_one : ((block : ℕ) (hash : Option Bytes) → s ≡ Reorganised block hash → ⊥) → Passing s len guards entries₀ labels₀ many numbers₀ bytes₀ entries labels' numbers' bytes' (n + 1) w (i + 1)
      left_one by =
          let e : Entry = entry_of (get_or entries i d) in
          left _ _ _ _ _ _ len guards entries₀ labels₀ many numbers₀ bytes₀ entries labels numbers bytes n w i t d more _ true (listed_as s e) (λ b l. takes s e is) labels' (λ b l. sym (drops b)) numbers' bytes'
          (numbers-width s _) (rw same at wrote.2) (rw same at wrote.0) (rw same at wrote.1) (goes s e by)

-- the pass ends
pub passes : (q p : Held) (s : Selection) (numbers bytes numbers' bytes' : List ℕ) (len n w i : ℕ) → len ≡ min q.len 64 → length q.entries ≡ 64 →
    (ltb (length numbers) (number_width s * length (keep (selected s) (entries_seen q))) || ltb (length bytes) (byte_width s * length (keep (selected s) (entries_seen q)))) ≡ false →
    Passing s len q.guards q.entries q.labels (length (keep (selected s) (entries_seen q))) numbers bytes p.entries p.labels numbers' bytes' n w i → len ≤ i → p.guards ≡ q.guards →
    Always q (call_of s) numbers bytes (record { answer = Ok (answered s n); store = record { entries = p.entries; len = w; labels = p.labels; guards = p.guards } }) numbers' bytes'
passes q p s numbers bytes numbers' bytes' len n w i is whole room t h same bodies =
    let all : take len q.entries ≡ take q.len q.entries = rw is (clamp q.len 64 q.entries whole) in
    let pass = rw all at (done _ _ _ _ _ _ len q.guards q.entries q.labels _ numbers bytes p.entries p.labels numbers' bytes' n w i t h bodies tt) in
    rw same
    (passed q s numbers bytes room bodies p.entries p.labels t.told n w numbers' bytes' pass t.counted t.numbers-listed.holds t.bytes-listed.holds)
