-- Laws of a loop that writes a list to the front of a slice, so many numbers for each element.
use Prim.Native.Nat.{ℕ, ◌+◌, ◌*◌, ◌-◌, ◌≤◌, ◌<◌}
use native.Mathlib.Nat.{mul-zero, mul-suc, mul-le-mul_left}
use native.Mathlib.Numerals.{add-one}
use native.Mathlib.Omega.{arith}
use mathlib.Core.Path.{◌≡◌, refl, sym, ap, ◌∙◌}
use mathlib.Core.List.{List, [], ◌∷◌, ◌++◌, append_assoc, append-nil, map}
use lib.ListN.{length, take, drop, get_or, set, length-take, length-append, length-drop}
use lib.Seq.{take-suc, take_at, drop_at, drop-drop, set_split}
use Rattle.lists.specs.Lists.{Each, collect, written, written_at}

-- ---- a list written from a place on

pub length_at : (at : ℕ) (l out : List ℕ) → at + length l ≤ length out → length (written_at at l out) ≡ length out
length_at at l out h = simp (length-append, length-take, length-drop) (omega arith)

-- what is written to the front of a slice, and leaves its length, fits it
pub written-fits : (l slice after : List ℕ) → after ≡ written l slice → length after ≡ length slice → length l ≤ length slice
written-fits l slice after e h =
    let z : length (written l slice) ≡ length l + (length slice - length l) = simp (length-append, length-drop) in
    omega (arith, ap length e)

-- one number
pub one_at : (out : List ℕ) (at v : ℕ) → at < length out → set out at v ≡ written_at at (v ∷ []) out
one_at out at v h = set_split out at v h ∙ rw (← add-one at, drop-drop)

-- behind what is written already
pub at-behind : (at : ℕ) (l m out : List ℕ) → at + length l ≤ length out → written_at (at + length l) m (written_at at l out) ≡ written_at at (l ++ m) out
at-behind at l m out h =
    let e : length (take at out ++ l) ≡ at + length l = simp (length-append, length-take) (omega arith) in
    rw
    (← append_assoc (take at out) l (drop (length l) (drop at out)), take_at (take at out ++ l) (drop (length l) (drop at out)) (at + length l) e, drop_at (take at out ++ l) (drop (length l) (drop at out)) (at + length l) e, append_assoc (take at out) l, append_assoc l m, length-append l m, drop-drop (length m) (length l) (drop at out))

-- a loop that copies a list to a place
pub copy_more : (at : ℕ) (l out : List ℕ) (j : ℕ) → j < length l → at + length l ≤ length out →
    set (written_at at (take j l) out) (at + j) (get_or l j 0) ≡ written_at at (take (j + 1) l) out
copy_more at l out j h b =
    let hj : length (take j l) ≡ j = simp length-take (omega arith) in
    let e : at + j ≡ at + length (take j l) = omega arith in
    let z : length (written_at at (take j l) out) ≡ length out = length_at at (take j l) out (omega arith) in
    rw e
    (one_at (written_at at (take j l) out) (at + length (take j l)) (get_or l j 0) (omega arith) ∙ at-behind at (take j l) (get_or l j 0 ∷ []) out (omega arith) ∙ rw (add-one, take-suc l j 0 h))

-- ---- one element after another

pub collect-append : {A B : Type 0} (f : A → List B) (a b : List A) → collect f (a ++ b) ≡ collect f a ++ collect f b
unfolding collect
collect-append f [] b = refl
collect-append f (x ∷ xs) b = rw (collect-append f xs b) (sym (append_assoc (f x) (collect f xs) (collect f b)))

-- each element comes to so many numbers
pub collect-length : {A : Type 0} (f : A → List ℕ) (size : ℕ) (l : List A) → Each (λ x. length (f x) ≡ size) l → length (collect f l) ≡ size * length l
unfolding collect
collect-length f size [] h = sym (mul-zero size)
collect-length f size (x ∷ l) h = rw length-append (omega (arith, h.0, collect-length f size l h.1, mul-suc size (length l)))

module _ {X A : Type 0} (item : X → A) (f : A → List ℕ) (size : ℕ) where
  -- what is written after `i` of `n` elements
  pub record Wrote (xs : List X) (n : ℕ) (out₀ out : List ℕ) (i : ℕ) : Type 0 where
    pub within : i ≤ n
    pub sized : length (collect f (map item (take i xs))) ≡ size * i
    pub same : length out ≡ length out₀
    pub holds : out ≡ written (collect f (map item (take i xs))) out₀

  pub start : (xs : List X) (n : ℕ) (out : List ℕ) → Wrote xs n out out 0
  unfolding collect
  start xs n out = record { within = omega arith; sized = omega arith; same = refl; holds = refl }

  map_more : (l : List X) (v : X) → map item (l ++ (v ∷ [])) ≡ map item l ++ (item v ∷ [])
  map_more [] v = refl
  map_more (x ∷ xs) v = ap {B = List A} (λ r. item x ∷ r) (map_more xs v)

  one_more : (xs : List X) (i : ℕ) (d : X) → i < length xs → collect f (map item (take (i + 1) xs)) ≡ collect f (map item (take i xs)) ++ f (item (get_or xs i d))
  unfolding collect
  one_more xs i d h = rw (add-one, take-suc xs i d h, map_more (take i xs) (get_or xs i d), collect-append f (map item (take i xs)) (item (get_or xs i d) ∷ []), append-nil)

  pub wrote-more : (xs : List X) (n : ℕ) (out₀ out : List ℕ) (i : ℕ) (d : X) (out' : List ℕ) → Wrote xs n out₀ out i → i < n → n ≤ length xs → size * n ≤ length out₀ →
      length (f (item (get_or xs i d))) ≡ size → out' ≡ written_at (size * i) (f (item (get_or xs i d))) out → Wrote xs n out₀ out' (i + 1)
  wrote-more xs n out₀ out i d out' w h b r z e =
      let l : List ℕ = collect f (map item (take i xs)) in
      let v : List ℕ = f (item (get_or xs i d)) in
      let next : size * (i + 1) ≡ size * i + size = rw add-one (mul-suc size i) in
      let room : size * (i + 1) ≤ size * n = mul-le-mul_left size (omega arith) in
      let p : size * i ≡ 0 + length (collect f (map item (take i xs))) = omega (arith, w.sized) in
      let m : collect f (map item (take (i + 1) xs)) ≡ collect f (map item (take i xs)) ++ f (item (get_or xs i d)) = one_more xs i d (omega arith) in
      record {
        within = omega arith;
        sized = rw (m, length-append l v) (omega (arith, w.sized));
        same = rw e (length_at (size * i) v out (omega (arith, w.same))) ∙ w.same;
        holds = e ∙ rw (m, w.holds, p) (at-behind 0 l v out₀ (omega (arith, w.sized)));
      }

  pub wrote-all : (xs : List X) (n : ℕ) (out₀ out : List ℕ) (i : ℕ) → Wrote xs n out₀ out i → n ≤ i → out ≡ written (collect f (map item (take n xs))) out₀
  wrote-all xs n out₀ out i w h =
      let e : i ≡ n = omega (arith, w.within) in
      rw e at w.holds
