-- The loops over the labels: how far each has come, and one turn more.
use Prim.Native.Nat.{ℕ, suc, ◌+◌, ◌*◌, ◌≤◌, ◌<◌, min}
use native.Mathlib.Numerals.{add-one}
use native.Mathlib.Omega.{arith}
use mathlib.Core.Path.{◌≡◌, refl, sym, ap, subst, ◌∙◌}
use mathlib.Core.Bool.{Bool, true, false, ◌&&◌, cond}
use mathlib.Core.List.{List, [], ◌∷◌, ◌++◌, append_assoc, append-nil, map}
use lib.Dec.{eqb}
use borrow.Author.Tests.{eq-eqb, ne_eqb}
use lib.ListN.{length, take, drop, get_or, set, length-take, drop_of_length-le}
use lib.Seq.{take-suc-set, take-set-lt, drop-cons, drop-set-lt, get_or-take, set-get_or}
use Rattle.lists.specs.Bytes.{Bytes, eq_bytes}
use Rattle.lists.specs.Lists.{written_at}
use Rattle.lists.proofs.Compacting.{clamp}
use Rattle.store_rules.specs.Store.{drop_guard}
use Rattle.store_rules.specs.View.{GuardLabel, Bodies, guard_seen, label_of, labels_of, live_of}
use Rattle.guards.specs.Labels.{is_live, label_at}
use Rattle.guards.specs.Moving.{live_count, BodyPut}
use Rattle.guards.specs.Recording.{standing, bodies_in}
use Rattle.guards.specs.declared.bodies.GuardBodies.{GuardBodies}
use Rattle.guards.proofs.Labels.{no_label, labels_length, label-here, label-seen, label-cleared, label-moved}
use Rattle.guards.proofs.Standing.{dropped, dropped-live, live_more}

-- a count past the last label is as good as 64
pub all-labels : (guards len : ℕ) (b : Bytes) → len ≡ min guards 64 → take len (labels_of b) ≡ take guards (labels_of b)
all-labels guards len b is = rw is (clamp guards 64 (labels_of b) (labels_length b))

-- what is left, by its first
left : (ls : List GuardLabel) (len i : ℕ) → i < len → len ≤ length ls → drop i (take len ls) ≡ get_or ls i no_label ∷ drop (i + 1) (take len ls)
left ls len i more fits =
    let hi : i < length (take len ls) = simp length-take (omega arith) in
    rw (add-one, drop-cons (take len ls) i no_label hi, get_or-take len ls i no_label more)

nothing_left : (ls : List GuardLabel) (len i : ℕ) → len ≤ i → drop i (take len ls) ≡ []
nothing_left ls len i h =
    let hi : length (take len ls) ≤ i = simp length-take (omega arith) in
    drop_of_length-le (take len ls) hi

-- ---- searching

-- the place is the number of labels that were walked and the place among the rest
abbrev pub Searching : Bytes → ℕ → Bytes → ℕ → Type 0
Searching h guards b i = label_at h (take guards (labels_of b)) ≡ i + label_at h (drop i (take (min guards 64) (labels_of b)))

pub search_start : (h : Bytes) (guards : ℕ) (b : Bytes) → Searching h guards b 0
search_start h guards b = ap (label_at h) (sym (all-labels guards (min guards 64) b refl)) ∙ omega arith

module _ (h : Bytes) (guards : ℕ) (b : Bytes) (i : ℕ) (t : Searching h guards b i) where
  size : length (take guards (labels_of b)) ≡ min guards 64
  size = simp length-take (omega (arith, labels_length b))

  module _ (more : i < min guards 64) where
    by_first : (a : Bool) → is_live h (label_of (take 33 (drop (33 * i) b))) ≡ a →
        label_at h (drop i (take (min guards 64) (labels_of b))) ≡ cond a 0 (suc (label_at h (drop (i + 1) (take (min guards 64) (labels_of b)))))
    unfolding label_at
    by_first a e = rw (left (labels_of b) (min guards 64) i more (omega (arith, labels_length b)), label-here b i (omega arith), e)

    pub found : is_live h (label_of (take 33 (drop (33 * i) b))) ≡ true →
        (label_at h (take guards (labels_of b)) < length (take guards (labels_of b))) × (i ≡ label_at h (take guards (labels_of b)))
    found e = let f = by_first true e in (omega (arith, t, size), omega (arith, t))

    pub passed_over : is_live h (label_of (take 33 (drop (33 * i) b))) ≡ false → Searching h guards b (i + 1)
    passed_over e = let f = by_first false e in omega (arith, t)

  pub none_left : min guards 64 ≤ i → label_at h (take guards (labels_of b)) < length (take guards (labels_of b)) → ⊥
  unfolding label_at
  none_left m less = let n = nothing_left (labels_of b) (min guards 64) i m in omega (arith, size, less, rw n at t)

-- ---- counting

-- so many labels are visited
pub record Counting (len : ℕ) (ls : List GuardLabel) (i n : ℕ) : Type 0 where
  pub within : i ≤ len
  pub few : n ≤ i
  pub so_far : n + live_count (drop i (take len ls)) ≡ live_count (take len ls)

module _ (len : ℕ) (ls : List GuardLabel) (i n : ℕ) (more : i < len) (fits : len ≤ length ls) (t : Counting len ls i n) where
  pub one-counted : (get_or ls i no_label).live ≡ true → Counting len ls (i + 1) (n + 1)
  unfolding live_count
  one-counted y = record { within = omega arith; few = omega arith; so_far = omega (arith, rw (left ls len i more fits, y) at t.so_far) }

  pub none-counted : (get_or ls i no_label).live ≡ false → Counting len ls (i + 1) n
  unfolding live_count
  none-counted y = record { within = omega arith; few = omega arith; so_far = rw (left ls len i more fits, y) at t.so_far }

pub all-counted : (len : ℕ) (ls : List GuardLabel) (i n : ℕ) → len ≤ i → Counting len ls i n → n ≡ live_count (take len ls)
unfolding live_count
all-counted len ls i n h t = omega (arith, rw (nothing_left ls len i h) at t.so_far)

-- ---- dropping

-- so many labels are visited
pub record Dropping (h : Bytes) (len : ℕ) (ls₀ ls : List GuardLabel) (i : ℕ) : Type 0 where
  pub within : i ≤ len
  pub so_far : take i ls ++ map (dropped h) (drop i (take len ls)) ≡ map (dropped h) (take len ls₀)

module _ (h : Bytes) (len : ℕ) (ls₀ ls : List GuardLabel) (i : ℕ) (more : i < len) (fits : len ≤ length ls) (t : Dropping h len ls₀ ls i) where
  one-dropped : Dropping h len ls₀ (set ls i (dropped h (get_or ls i no_label))) (i + 1)
  one-dropped =
      let v : GuardLabel = dropped h (get_or ls i no_label) in
      let b : i < length ls = omega arith in
      let z : i < i + 1 = omega arith in
      record {
        within = omega arith;
        so_far = rw (take-set-lt len ls i v more, drop-set-lt (i + 1) (take len ls) i v z, add-one, take-suc-set ls i v b, append_assoc (take i ls))
            (rw (← add-one i) (rw (left ls len i more fits) at t.so_far));
      }

  one-passed : dropped h (get_or ls i no_label) ≡ get_or ls i no_label → Dropping h len ls₀ ls (i + 1)
  one-passed e = subst (λ l. Dropping h len ls₀ l (i + 1)) (ap (set ls i) e ∙ set-get_or ls i no_label) one-dropped

module _ (h : Bytes) (len : ℕ) (b₀ b : Bytes) (i : ℕ) (more : i < len) (fits : len ≤ 64) (t : Dropping h len (labels_of b₀) (labels_of b) i) where
  inside : len ≤ length (labels_of b)
  inside = omega (arith, labels_length b)

  here : i < 64
  here = omega arith

  abbrev on : Bool
  on = eqb (get_or b (33 * i + 32) 0) 1

  pub cleared : length b ≡ 2112 → eq_bytes (take 32 (drop (33 * i) b)) h ≡ true → Dropping h len (labels_of b₀) (labels_of (set b (33 * i + 32) 0)) (i + 1)
  cleared sized e =
      let v : record { hash = take 32 (drop (33 * i) b); live = false } ≡ dropped h (get_or (labels_of b) i no_label) = rw (label-seen b i here, e) (go on) in
      rw (label-cleared b i here sized, v) (one-dropped h len (labels_of b₀) (labels_of b) i more inside t)
    where
      go : (a : Bool) → ◌≡◌ {A = GuardLabel} (record { hash = take 32 (drop (33 * i) b); live = false }) (record { hash = take 32 (drop (33 * i) b); live = a && false })
      go true = refl
      go false = refl

  pub passed : eq_bytes (take 32 (drop (33 * i) b)) h ≡ false → Dropping h len (labels_of b₀) (labels_of b) (i + 1)
  passed e =
      one-passed h len (labels_of b₀) (labels_of b) i more inside t (rw (label-seen b i here, e) (go on))
    where
      go : (a : Bool) → ◌≡◌ {A = GuardLabel} (record { hash = take 32 (drop (33 * i) b); live = a && true }) (record { hash = take 32 (drop (33 * i) b); live = a })
      go true = refl
      go false = refl

pub all-dropped : (h : Bytes) (guards len : ℕ) (b₀ b : Bytes) (i : ℕ) → len ≡ min guards 64 → len ≤ i → Dropping h len (labels_of b₀) (labels_of b) i → (bodies : Bodies) →
    standing guards b bodies ≡ drop_guard h (standing guards b₀ bodies)
all-dropped h guards len b₀ b i is m t bodies =
    let e : i ≡ len = omega (arith, t.within) in
    let d : take len (labels_of b) ≡ map (dropped h) (take len (labels_of b₀)) =
    sym (append-nil (take len (labels_of b))) ∙ rw (e, nothing_left (labels_of b) len len (omega arith)) at t.so_far in
    rw (← all-labels guards len b is, ← all-labels guards len b₀ is, d) (dropped-live h (take len (labels_of b₀)) bodies)

-- ---- moving to the front

-- so many labels are visited
pub record Moving (len : ℕ) (ls₀ : List GuardLabel) (bodies₀ : Bodies) (ls : List GuardLabel) (bodies : Bodies) (w i : ℕ) : Type 0 where
  pub within : i ≤ len
  pub behind : w ≤ i
  pub counted : w + live_count (drop i (take len ls)) ≡ live_count (take len ls₀)
  pub so_far : live_of (take w ls) bodies ++ live_of (drop i (take len ls)) (λ k. bodies (i + k)) ≡ live_of (take len ls₀) bodies₀

pub move_start : (len : ℕ) (ls : List GuardLabel) (bodies : Bodies) → Moving len ls bodies ls bodies 0 0
unfolding live_of
move_start len ls bodies =
    record { within = omega arith; behind = omega arith; counted = omega arith; so_far = λ s. live_of (take len ls) (λ k. bodies (same k s)) }
  where
    same : (k : ℕ) → 0 + k ≡ k
    same k = omega arith

module _ (len : ℕ) (ls₀ : List GuardLabel) (bodies₀ : Bodies) (ls : List GuardLabel) (bodies : Bodies) (w i : ℕ)
    (more : i < len) (fits : len ≤ length ls) (t : Moving len ls₀ bodies₀ ls bodies w i) where
  first : i + 0 ≡ i
  first = omega arith

  next : (k : ℕ) → i + suc k ≡ i + 1 + k
  next k = omega arith

  one-gone : (get_or ls i no_label).live ≡ false → Moving len ls₀ bodies₀ ls bodies w (i + 1)
  unfolding live_of live_count
  one-gone y =
      record {
        within = omega arith;
        behind = omega arith;
        counted = rw (left ls len i more fits, y) at t.counted;
        so_far = (λ s. live_of (take w ls) bodies ++ live_of (drop (i + 1) (take len ls)) (λ k. bodies (sym (next k) s))) ∙ rw (left ls len i more fits, y) at t.so_far;
      }

  one-moved : (bodies' : Bodies) → BodyPut w (bodies i) bodies bodies' → (get_or ls i no_label).live ≡ true →
      Moving len ls₀ bodies₀ (set ls w (get_or ls i no_label)) bodies' (w + 1) (i + 1)
  unfolding live_of live_count
  one-moved bodies' put y =
      let v : GuardLabel = get_or ls i no_label in
      let h : Bytes = (get_or ls i no_label).hash in
      let is : get_or ls i no_label ≡ record { hash = (get_or ls i no_label).hash; live = true } = λ s. record { hash = (get_or ls i no_label).hash; live = y s } in
      let one : live_of (take (w + 1) (set ls w (get_or ls i no_label))) bodies' ≡ live_of (take w ls) bodies ++ (guard_seen h (bodies i) ∷ []) =
      rw (add-one, is) (live_more w ls bodies bodies' h (omega arith) (λ j m. put.elsewhere j (λ e. omega arith)) ∙ rw put.here) in
      let same : drop (i + 1) (take len (set ls w (get_or ls i no_label))) ≡ drop (i + 1) (take len ls) =
      rw (take-set-lt len ls w v (omega arith)) (drop-set-lt (i + 1) (take len ls) w v (omega arith)) in
      let far : (k : ℕ) → bodies' (i + 1 + k) ≡ bodies (i + suc k) = λ k. put.elsewhere (i + 1 + k) (λ e. omega arith) ∙ ap bodies (sym (next k)) in
      let old : live_of (take w ls) bodies ++ (guard_seen h (bodies i) ∷ live_of (drop (i + 1) (take len ls)) (λ k. bodies (i + suc k))) ≡ live_of (take len ls₀) bodies₀ =
      rw (left ls len i more fits, y, first) at t.so_far in
      record {
        within = omega arith;
        behind = omega arith;
        counted = rw same (omega (arith, rw (left ls len i more fits, y) at t.counted));
        so_far = rw (one, same) ((λ s. (live_of (take w ls) bodies ++ (guard_seen h (bodies i) ∷ [])) ++ live_of (drop (i + 1) (take len ls)) (λ k. far k s)) ∙ rw (append_assoc (live_of (take w ls) bodies)) old);
      }

module _ (len : ℕ) (b₀ : Bytes) (bodies₀ : Bodies) (b : Bytes) (bodies : GuardBodies) (w i : ℕ)
    (more : i < len) (fits : len ≤ 64) (t : Moving len (labels_of b₀) bodies₀ (labels_of b) (bodies_in bodies) w i) where
  all_there : len ≤ length (labels_of b)
  all_there = omega (arith, labels_length b)

  pub guard-gone : (get_or b (33 * i + 32) 0 ≡ 1 → ⊥) → Moving len (labels_of b₀) bodies₀ (labels_of b) (bodies_in bodies) w (i + 1)
  guard-gone n =
      one-gone len (labels_of b₀) bodies₀ (labels_of b) (bodies_in bodies) w i more all_there t (rw (label-seen b i (omega arith)) (ne_eqb (get_or b (33 * i + 32) 0) 1 n))

  pub guard-moved : length b ≡ 2112 → get_or b (33 * i + 32) 0 ≡ 1 → (bodies' : GuardBodies) → BodyPut w (bodies_in bodies i) (bodies_in bodies) (bodies_in bodies') →
      Moving len (labels_of b₀) bodies₀ (labels_of (written_at (33 * w) (take 33 (drop (33 * i) b)) b)) (bodies_in bodies') (w + 1) (i + 1)
  guard-moved labelled l bodies' put =
      rw (label-moved b w (omega (arith, t.behind)) labelled i (omega arith))
      (one-moved len (labels_of b₀) bodies₀ (labels_of b) (bodies_in bodies) w i more all_there t (bodies_in bodies') put (rw (label-seen b i (omega arith)) (eq-eqb (get_or b (33 * i + 32) 0) 1 l)))

pub all_moved : (len : ℕ) (ls₀ : List GuardLabel) (bodies₀ : Bodies) (ls : List GuardLabel) (bodies : Bodies) (w i : ℕ) → len ≤ i → Moving len ls₀ bodies₀ ls bodies w i →
    (w ≡ live_count (take len ls₀)) × (live_of (take w ls) bodies ≡ live_of (take len ls₀) bodies₀)
unfolding live_of live_count
all_moved len ls₀ bodies₀ ls bodies w i m t =
    (omega (arith, rw (nothing_left ls len i m) at t.counted), sym (append-nil (live_of (take w ls) bodies)) ∙ rw (nothing_left ls len i m) at t.so_far)
