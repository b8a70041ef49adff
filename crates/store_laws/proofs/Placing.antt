-- An element put in its place among ascending ones, or at the place of the one with its number: they stay ascending.
use Prim.Native.Nat.{ℕ, ◌<◌}
use native.Mathlib.Omega.{arith}
use mathlib.Core.Path.{◌≡◌, refl, sym, subst}
use mathlib.Core.Bool.{Bool, true, false, cond}
use mathlib.Core.List.{List, [], ◌∷◌}
use lib.Dec.{eqb, ltb}
use borrow.Author.Tests.{ltb-true, ltb-false, eqb-true, eqb-false}
use Rattle.lists.specs.Lists.{Each, Pairwise}
use Rattle.lists.proofs.Keeping.{each_map}

-- `put` places by the number of an element; of two with the same number `of` stays
module _ {A : Type 0} (number : A → ℕ) (of : A → A → A) (put : A → List A → List A)
    (put-nil : (a : A) → put a [] ≡ a ∷ [])
    (put-cons : (a x : A) (xs : List A) → put a (x ∷ xs) ≡ cond (ltb (number a) (number x)) (a ∷ x ∷ xs) (cond (eqb (number a) (number x)) (of a x ∷ xs) (x ∷ put a xs)))
    (of_number : (a x : A) → number a ≡ number x → number (of a x) ≡ number x) where
  abbrev Ascending : List A → Type 0
  Ascending = Pairwise (λ (x y : A). number x < number y)

  put-each : (P : ℕ → Type 0) (a : A) (xs : List A) → P (number a) → Each (λ x. P (number x)) xs → Each (λ x. P (number x)) (put a xs)
  put-each P a [] p h = rw put-nil (p, tt)
  put-each P a (x ∷ xs) p h = rw put-cons (go (ltb (number a) (number x)) (eqb (number a) (number x)) refl (put-each P a xs p h.1))
    where
      go : (l e : Bool) → eqb (number a) (number x) ≡ e → Each (λ y. P (number y)) (put a xs) →
          Each (λ y. P (number y)) (cond l (a ∷ x ∷ xs) (cond e (of a x ∷ xs) (x ∷ put a xs)))
      go true e q t = (p, h)
      go false true q t = (subst P (sym (of_number a x (eqb-true (number a) (number x) q))) h.0, h.1)
      go false false q t = (h.0, t)

  pub put-ascending : (a : A) (xs : List A) → Ascending xs → Ascending (put a xs)
  put-ascending a [] h = rw put-nil (tt, tt)
  put-ascending a (x ∷ xs) h = rw put-cons (go (ltb (number a) (number x)) refl (eqb (number a) (number x)) refl (put-ascending a xs h.1))
    where
      go : (l : Bool) → ltb (number a) (number x) ≡ l → (e : Bool) → eqb (number a) (number x) ≡ e → Ascending (put a xs) →
          Ascending (cond l (a ∷ x ∷ xs) (cond e (of a x ∷ xs) (x ∷ put a xs)))
      go true p e q t =
          let l = ltb-true (number a) (number x) p in
          ((l, each_map (λ y. number x < number y) (λ y. number a < number y) xs (λ y m. omega arith) h.0), h)
      go false p true q t = (subst (λ (n : ℕ). Each (λ y. n < number y) xs) (sym (of_number a x (eqb-true (number a) (number x) q))) h.0, h.1)
      go false p false q t =
          let l = ltb-false (number a) (number x) p in
          let d = eqb-false (number a) (number x) q in
          (put-each (λ n. number x < n) a xs (omega arith) h.0, t)
