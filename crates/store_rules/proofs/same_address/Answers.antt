use mathlib.Core.Path.{sym, refl, ◌∙◌}
use mathlib.Core.Bool.{true}
use borrow.Author.Tests.{ne_eqb}
use Rattle.lists.proofs.Same.{differs}
use borrow.Author.Rules.{rules}
use Rattle.store_rules.proofs.Seen.{equal-is}
use Rattle.store_rules.proofs.same_address.Goals as goal

pub returns-then-a-b : goal.returns-then-a-b
returns-then-a-b c = c.eq.ensures ∙ sym (equal-is c.args.a c.args.b)

pub returns-else-a-b : goal.returns-else-a-b
returns-else-a-b c = let a = c.args in ne_eqb _ _ c.if-a-b.false ∙ sym (differs a.a a.b 0 true (search rules) (search rules) refl c.if-a-b.false)
