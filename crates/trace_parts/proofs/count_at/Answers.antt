use native.Mathlib.Omega.{arith}
use Rattle.trace_parts.proofs.Lists.{count_small}
use Rattle.trace_parts.proofs.count_at.Goals as goal

pub returns : goal.returns
returns c = (c.number.ensures, rw c.number.ensures (count_small c.args.at c.args.bytes.now (λ i. omega (arith, c.type_inv.bytes i))))
