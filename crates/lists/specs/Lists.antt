-- Lists: what passes a test, what holds of every element or of every two, a list written to a slice, sums, and numbers one
-- after another.
use Rattle.std.specs.Prelude.{ℕ, zero, suc, ◌+◌, Bool, true, false, ◌&&◌, ◌||◌, cond, List, [], ◌∷◌, ◌++◌, eqb, length, take, drop}

module _ {A : Type 0} where
  -- the elements that pass a test, in their order
  unfoldable pub keep : (A → Bool) → List A → List A
  keep p [] = []
  keep p (x ∷ xs) = cond (p x) (x ∷ keep p xs) (keep p xs)

  unfoldable pub is_empty : List A → Bool
  is_empty [] = true
  is_empty (x ∷ xs) = false

  -- every element satisfies P
  abbrev pub Each : (A → Type 0) → List A → Type 0
  Each P [] = Unit {0}
  Each P (x ∷ xs) = P x × Each P xs

  -- every element stands in the relation R to each later one
  abbrev pub Pairwise : (A → A → Type 0) → List A → Type 0
  Pairwise R [] = Unit {0}
  Pairwise R (x ∷ xs) = Each (R x) xs × Pairwise R xs

-- all of these tests pass
unfoldable pub every : List Bool → Bool
every [] = true
every (b ∷ bs) = b && every bs

-- what each element comes to, one after another
unfoldable pub collect : {A B : Type 0} → (A → List B) → List A → List B
collect f [] = []
collect f (x ∷ xs) = f x ++ collect f xs

unfoldable pub sum : List ℕ → ℕ
sum [] = 0
sum (n ∷ ns) = n + sum ns

-- a slice with the list at its front; what lies past it stays
abbrev pub written : List ℕ → List ℕ → List ℕ
written l slice = l ++ drop (length l) slice

-- a slice with the list from a place on; what lies before and past it stays
abbrev pub written_at : ℕ → List ℕ → List ℕ → List ℕ
written_at at l slice = take at slice ++ written l (drop at slice)

-- a list cut into so many parts of one width, from its front on
unfoldable pub chunks : ℕ → ℕ → List ℕ → List (List ℕ)
chunks width zero l = []
chunks width (suc count) l = take width l ∷ chunks width count (drop width l)

-- n, n + 1, .., in all `count` numbers
unfoldable pub numbers_from : ℕ → ℕ → List ℕ
numbers_from n zero = []
numbers_from n (suc count) = n ∷ numbers_from (suc n) count

-- whether a number is in the list
unfoldable pub is_in : ℕ → List ℕ → Bool
is_in n [] = false
is_in n (m ∷ ms) = eqb m n || is_in n ms
