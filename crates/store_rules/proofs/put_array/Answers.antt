use mathlib.Core.Path.{◌∙◌}
use Rattle.store_rules.proofs.Seen.{pasted}
use borrow.Author.Rules.{rules}
use Rattle.store_rules.proofs.put_array.Goals as goal

pub returns : goal.returns
returns g c = record { slice = c.put_bytes.ensures ∙ pasted c.args.out.now c.args.at c.args.bytes.now; sized = search rules; same = search rules }
