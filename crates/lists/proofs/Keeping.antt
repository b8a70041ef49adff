-- The laws of `keep` and `Each`.
use Prim.Native.Nat.{ℕ, ◌≤◌}
use mathlib.Core.Path.{◌≡◌, refl, sym, ap, ◌∙◌, subst}
use mathlib.Core.Bool.{Bool, true, false, cond, false≢true}
use mathlib.Core.List.Memᴰ
use mathlib.Core.List.{List, [], ◌∷◌, ◌++◌, Memᴰ}
use mathlib.Core.Logic.{◌⊎◌, inl, inr}
use lib.ListN.{length, drop, drop_of_length-le}
use Rattle.lists.specs.Lists.{keep, Each}
use Rattle.lists.proofs.ByteOrder.{clash}

module _ {A : Type 0} where
  pub keep-yes : (p : A → Bool) (x : A) (xs : List A) → p x ≡ true → keep p (x ∷ xs) ≡ x ∷ keep p xs
  unfolding keep
  keep-yes p x xs h = rw h

  pub keep-no : (p : A → Bool) (x : A) (xs : List A) → p x ≡ false → keep p (x ∷ xs) ≡ keep p xs
  unfolding keep
  keep-no p x xs h = rw h

  -- what is kept of the elements that are left
  module _ (p : A → Bool) (xs : List A) (i : ℕ) where
    pub rest_end : length xs ≤ i → keep p (drop i xs) ≡ []
    unfolding keep
    rest_end h = rw (drop_of_length-le xs h)

  -- the same head, and tails of which the same is kept
  pub keep-cong : (p : A → Bool) (x : A) (xs ys : List A) → keep p xs ≡ keep p ys → keep p (x ∷ xs) ≡ keep p (x ∷ ys)
  unfolding keep
  keep-cong p x xs ys h = ap (λ (l : List A). cond (p x) (x ∷ l) l) h

  pub keep_append : (p : A → Bool) (xs ys : List A) → keep p (xs ++ ys) ≡ keep p xs ++ keep p ys
  unfolding keep
  keep_append p [] ys = refl
  keep_append p (x ∷ xs) ys = rw (keep_append p xs ys) (go (p x) (keep p xs) (keep p ys))
    where
      go : (b : Bool) (ks ls : List A) → cond b (x ∷ (ks ++ ls)) (ks ++ ls) ≡ cond b (x ∷ ks) ks ++ ls
      go true ks ls = refl
      go false ks ls = refl

  -- where every element passes, all are kept
  pub keep-each : (p : A → Bool) (xs : List A) → Each (λ x. p x ≡ true) xs → keep p xs ≡ xs
  unfolding keep
  keep-each p [] h = refl
  keep-each p (x ∷ xs) h = rw (h.0, keep-each p xs h.1)

  -- tests that agree on every element keep the same
  pub keep-on : (p q : A → Bool) (xs : List A) → Each (λ x. p x ≡ q x) xs → keep p xs ≡ keep q xs
  unfolding keep
  keep-on p q [] h = refl
  keep-on p q (x ∷ xs) h = rw (h.0, keep-on p q xs h.1)

  -- what passes the narrower of two tests is kept also if the wider one comes first
  pub keep-keep : (p q : A → Bool) → ((x : A) → q x ≡ true → p x ≡ true) → (xs : List A) → keep q (keep p xs) ≡ keep q xs
  unfolding keep
  keep-keep p q h [] = refl
  keep-keep p q h (x ∷ xs) = go (p x) refl (q x) refl (keep-keep p q h xs)
    where
      go : (b : Bool) → p x ≡ b → (c : Bool) → q x ≡ c → keep q (keep p xs) ≡ keep q xs →
          keep q (cond b (x ∷ keep p xs) (keep p xs)) ≡ cond c (x ∷ keep q xs) (keep q xs)
      go true e c f ih = rw (f, ih)
      go false e true f ih = clash (h x f) e
      go false e false f ih = ih

  pub each_map : (P Q : A → Type 0) (xs : List A) → ((x : A) → P x → Q x) → Each P xs → Each Q xs
  each_map P Q [] f h = tt
  each_map P Q (x ∷ xs) f h = (f x h.0, each_map P Q xs f h.1)

  pub each_both : (P Q : A → Type 0) (xs : List A) → Each P xs → Each Q xs → Each (λ x. P x × Q x) xs
  each_both P Q [] h k = tt
  each_both P Q (x ∷ xs) h k = ((h.0, k.0), each_both P Q xs h.1 k.1)

  pub each_append : (P : A → Type 0) (xs ys : List A) → Each P (xs ++ ys) → Each P xs × Each P ys
  each_append P [] ys h = (tt, h)
  each_append P (x ∷ xs) ys h = let r = each_append P xs ys h.1 in ((h.0, r.0), r.1)

  pub each_of : (P : A → Type 0) (xs : List A) → ((x : A) → Memᴰ x xs → P x) → Each P xs
  each_of P [] f = tt
  each_of P (x ∷ xs) f = (f x (Memᴰ.head refl), each_of P xs (λ y m. f y (Memᴰ.tail m)))

  pub each_at : (P : A → Type 0) (xs : List A) → Each P xs → (x : A) → Memᴰ x xs → P x
  each_at P [] h x m = absurd (Memᴰ.not-nil m)
  each_at P (y ∷ ys) h x m = go (Memᴰ.cases_cons m) (each_at P ys h.1 x)
    where
      go : (x ≡ y) ⊎ Memᴰ x ys → (Memᴰ x ys → P x) → P x
      go (inl e) ih = subst P (sym e) h.0
      go (inr n) ih = ih n

  pub mem-keep : (p : A → Bool) (x : A) (xs : List A) → p x ≡ true → Memᴰ x xs → Memᴰ x (keep p xs)
  unfolding keep
  mem-keep p x [] h m = absurd (Memᴰ.not-nil m)
  mem-keep p x (y ∷ ys) h m = go (p y) refl (Memᴰ.cases_cons m) (mem-keep p x ys h)
    where
      go : (b : Bool) → p y ≡ b → (x ≡ y) ⊎ Memᴰ x ys → (Memᴰ x ys → Memᴰ x (keep p ys)) → Memᴰ x (cond b (y ∷ keep p ys) (keep p ys))
      go true e (inl q) ih = Memᴰ.head q
      go true e (inr n) ih = Memᴰ.tail (ih n)
      go false e (inl q) ih = absurd (false≢true (sym e ∙ ap p (sym q) ∙ h))
      go false e (inr n) ih = ih n

  pub keep-mem : (p : A → Bool) (x : A) (xs : List A) → Memᴰ x (keep p xs) → Memᴰ x xs
  unfolding keep
  keep-mem p x [] m = m
  keep-mem p x (y ∷ ys) m = go (p y) m (keep-mem p x ys)
    where
      go : (b : Bool) → Memᴰ x (cond b (y ∷ keep p ys) (keep p ys)) → (Memᴰ x (keep p ys) → Memᴰ x ys) → Memᴰ x (y ∷ ys)
      go true n ih = first (Memᴰ.cases_cons n)
        where
          first : (x ≡ y) ⊎ Memᴰ x (keep p ys) → Memᴰ x (y ∷ ys)
          first (inl q) = Memᴰ.head q
          first (inr k) = Memᴰ.tail (ih k)
      go false n ih = Memᴰ.tail (ih n)
