-- Byte strings: equality, and byte order in which a prefix comes first.
use Rattle.std.specs.Prelude.{ℕ, ◌≡◌, Bool, true, false, ◌&&◌, ◌||◌, List, [], ◌∷◌, eqb, ltb}

abbrev pub Bytes : Type 0
Bytes = List ℕ

-- the same bytes
unfoldable pub eq_bytes : Bytes → Bytes → Bool
eq_bytes [] [] = true
eq_bytes [] (y ∷ ys) = false
eq_bytes (x ∷ xs) [] = false
eq_bytes (x ∷ xs) (y ∷ ys) = eqb x y && eq_bytes xs ys

-- not after, in byte order
unfoldable pub le_bytes : Bytes → Bytes → Bool
le_bytes [] ys = true
le_bytes (x ∷ xs) [] = false
le_bytes (x ∷ xs) (y ∷ ys) = ltb x y || (eqb x y && le_bytes xs ys)

-- before, in byte order
abbrev pub Before : Bytes → Bytes → Type 0
Before a b = (le_bytes a b ≡ true) × (eq_bytes a b ≡ false)

-- the same numbers
abbrev pub eq_numbers : List ℕ → List ℕ → Bool
eq_numbers = eq_bytes
