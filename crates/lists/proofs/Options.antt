-- An option is a value or none, and never both.
use mathlib.Core.Path.{◌≡◌, sym}
use Rattle.std.specs.Prelude.{Some, None}
use Rattle.std.proofs.lemmas.Option.{none-some, same_Some}

pub some-injective : {A : Type 0} (a b : A) → Some a ≡ Some b → a ≡ b
some-injective a b = same_Some a b

pub none-ne-some : {A : Type 0} (a : A) → None ≡ Some a → ⊥
none-ne-some a = none-some a

pub some-ne-none : {A : Type 0} (a : A) → Some a ≡ None → ⊥
some-ne-none a p = none-some a (sym p)
