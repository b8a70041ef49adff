-- Laws of a list cut into parts of one width: the part in a place, and what is left of the parts where something is written into one.
use Prim.Native.Nat.{ℕ, zero, suc, ◌+◌, ◌*◌, ◌-◌, ◌≤◌, ◌<◌}
use native.Mathlib.Nat.{mul-zero, mul-suc, mul-le-mul_left}
use native.Mathlib.Omega.{arith}
use mathlib.Core.Path.{◌≡◌, refl, sym, ap, ◌∙◌}
use mathlib.Core.Bool.{Bool, true, false}
use mathlib.Core.List.{List, [], ◌++◌, append-nil}
use lib.Dec.{eqb, ltb}
use lib.ListN.{length, take, drop, get_or, set, length-take, length-drop, length-set, drop_of_length-le}
use lib.Seq.{take-append-le, drop-append-le, take-append-add, drop-append-add, take-take, drop-drop, ext_get_or, get_or-set_same, get_or-set_other}
use borrow.Author.Tests.{ltb-true, ltb-false, eqb-true, eqb-false}
use Rattle.lists.specs.Lists.{written, written_at, chunks}
use Rattle.lists.proofs.Parts.{drop-take}

-- ---- the part in a place

-- the part of this width in place k
abbrev pub part : ℕ → ℕ → List ℕ → List ℕ
part w k l = take w (drop (w * k) l)

pub chunks-length : (w n : ℕ) (l : List ℕ) → length (chunks w n l) ≡ n
unfolding chunks
chunks-length w zero l = refl
chunks-length w (suc n) l = ap suc (chunks-length w n (drop w l))

pub chunks-at : (w n : ℕ) (l : List ℕ) (k : ℕ) (d : List ℕ) → k < n → get_or (chunks w n l) k d ≡ part w k l
unfolding chunks
chunks-at w zero l k d h = absurd (omega arith)
chunks-at w (suc n) l zero d h = rw (mul-zero w)
chunks-at w (suc n) l (suc k) d h =
    let e : w + w * k ≡ w * suc k = omega (arith, mul-suc w k) in
    chunks-at w n (drop w l) k d (omega arith) ∙ rw (drop-drop (w * k) w l, e)

pub part_length : (w k : ℕ) (l : List ℕ) → w * k + w ≤ length l → length (part w k l) ≡ w
part_length w k l h = simp (length-take, length-drop) (omega arith)

-- ---- a write at an offset of the part in place k

-- the list from a place on
drop-written : (at o : ℕ) (v l : List ℕ) → at + o ≤ length l → drop at (written_at (at + o) v l) ≡ written_at o v (drop at l)
drop-written at o v l h =
    let e : at + o - at ≡ o = omega arith in
    let b : at ≤ length (take (at + o) l) = simp length-take (omega arith) in
    rw (drop-append-le at (take (at + o) l) (v ++ drop (length v) (drop (at + o) l)) b, drop-take at (at + o) l, e, drop-drop o at l)

-- its front
take-written : (w o : ℕ) (v m : List ℕ) → o + length v ≤ w → w ≤ length m → take w (written_at o v m) ≡ written_at o v (take w m)
take-written w o v m h b =
    let r : ℕ = w - (o + length v) in
    let p : length (take o m) ≡ o = simp length-take (omega arith) in
    let e : w ≡ length (take o m) + (length v + (w - (o + length v))) = omega (arith, p) in
    let f : w - o - length v ≡ w - (o + length v) = omega arith in
    rw (take-take o w m (omega arith), drop-take o w m, drop-take (length v) (w - o) (drop o m), f)
    (ap {B = List ℕ} (λ n. take n (written_at o v m)) e
    ∙ take-append-add (take o m) (v ++ drop (length v) (drop o m)) (length v + r)
    ∙ rw (take-append-add v (drop (length v) (drop o m)) r))

module _ (w k o : ℕ) (v l : List ℕ) (narrow : o + length v ≤ w) (room : w * k + w ≤ length l) where
  part-here : part w k (written_at (w * k + o) v l) ≡ written_at o v (part w k l)
  part-here =
      rw (drop-written (w * k) o v l (omega arith))
      (take-written w o v (drop (w * k) l) narrow (rw (length-drop (w * k) l) (omega arith)))

  part-elsewhere : (j : ℕ) → (j ≡ k → ⊥) → part w j (written_at (w * k + o) v l) ≡ part w j l
  part-elsewhere j n = go (ltb j k) refl
    where
      before : length (take (w * k + o) l) ≡ w * k + o
      before = simp length-take (omega arith)

      go : (t : Bool) → ltb j k ≡ t → part w j (written_at (w * k + o) v l) ≡ part w j l
      go true e =
          let h : w * suc j ≤ w * k = mul-le-mul_left w (ltb-true j k e) in
          let f : w * j + w ≤ w * k = omega (arith, mul-suc w j) in
          let b : w ≤ length (drop (w * j) (take (w * k + o) l)) = rw (length-drop (w * j) (take (w * k + o) l)) (omega (arith, before)) in
          rw
          (drop-append-le (w * j) (take (w * k + o) l) (v ++ drop (length v) (drop (w * k + o) l)) (omega (arith, before)), take-append-le w (drop (w * j) (take (w * k + o) l)) (v ++ drop (length v) (drop (w * k + o) l)) b, drop-take (w * j) (w * k + o) l)
          (take-take w (w * k + o - w * j) (drop (w * j) l) (omega arith))
      go false e =
          let m : suc k ≤ j = omega (arith, ltb-false j k e, n) in
          let h : w * suc k ≤ w * j = mul-le-mul_left w m in
          let r : ℕ = w * j - (w * k + o + length v) in
          let f : w * k + w ≤ w * j = omega (arith, mul-suc w k) in
          let p : w * j ≡ length (take (w * k + o) l) + (length v + (w * j - (w * k + o + length v))) = omega (arith, before) in
          let q : w * k + o + length v + (w * j - (w * k + o + length v)) ≡ w * j = omega arith in
          ap {B = List ℕ} (take w)
          (ap {B = List ℕ} (λ i. drop i (written_at (w * k + o) v l)) p
          ∙ drop-append-add (take (w * k + o) l) (v ++ drop (length v) (drop (w * k + o) l)) (length v + r)
          ∙ drop-append-add v (drop (length v) (drop (w * k + o) l)) r
          ∙ rw (drop-drop (length v) (w * k + o) l, drop-drop r (w * k + o + length v) l, q))

  pub chunks-set : (n : ℕ) → k < n → chunks w n (written_at (w * k + o) v l) ≡ set (chunks w n l) k (written_at o v (part w k l))
  chunks-set n h =
      ext_get_or [] (chunks w n (written_at (w * k + o) v l)) (set (chunks w n l) k (written_at o v (part w k l)))
      (chunks-length w n (written_at (w * k + o) v l) ∙ sym (chunks-length w n l) ∙ sym (length-set (chunks w n l) k (written_at o v (part w k l))))
      (λ j b. go j (omega (arith, chunks-length w n (written_at (w * k + o) v l))) (eqb j k) refl)
    where
      go : (j : ℕ) → j < n → (t : Bool) → eqb j k ≡ t →
          get_or (chunks w n (written_at (w * k + o) v l)) j [] ≡ get_or (set (chunks w n l) k (written_at o v (part w k l))) j []
      go j b true e =
          let c : k < length (chunks w n l) = omega (arith, chunks-length w n l) in
          rw (eqb-true j k e, chunks-at w n (written_at (w * k + o) v l) k [] h, part-here, get_or-set_same (chunks w n l) k (written_at o v (part w k l)) [] c)
      go j b false e =
          rw
          (chunks-at w n (written_at (w * k + o) v l) j [] b, part-elsewhere j (eqb-false j k e), get_or-set_other (chunks w n l) k j (written_at o v (part w k l)) [] (eqb-false j k e), chunks-at w n l j [] b)

-- ---- a write at the front of the part in place k

module _ (w k : ℕ) (v l : List ℕ) (narrow : length v ≤ w) (room : w * k + w ≤ length l) where
  here : w * k + 0 ≡ w * k
  here = omega arith

  pub front-here : part w k (written_at (w * k) v l) ≡ written v (part w k l)
  front-here = rw here at (part-here w k 0 v l (omega arith) room)

  pub front-elsewhere : (j : ℕ) → (j ≡ k → ⊥) → part w j (written_at (w * k) v l) ≡ part w j l
  front-elsewhere = rw here at (part-elsewhere w k 0 v l (omega arith) room)

  pub front-set : (n : ℕ) → k < n → chunks w n (written_at (w * k) v l) ≡ set (chunks w n l) k (written v (part w k l))
  front-set = rw here at (chunks-set w k 0 v l (omega arith) room)

-- the whole part is written over
pub written-whole : (v l : List ℕ) → length l ≤ length v → written v l ≡ v
written-whole v l h = rw (drop_of_length-le l h) (append-nil v)
