use native.Mathlib.Omega.{arith}
use Rattle.trace_parts.specs.Parts.{list_end}
use Rattle.trace_parts.proofs.Lists.{ends-out, ends-in}
use Rattle.trace_parts.proofs.list_end.Goals as goal

pub returns-then-bytes-lt2 : goal.returns-then-bytes-lt2
returns-then-bytes-lt2 c = let a = c.args in ends-out a.bytes.now (list_end a.width a.at a.bytes.now) (omega arith)

pub returns-then-bytes-at : goal.returns-then-bytes-at
returns-then-bytes-at c = let a = c.args in ends-out a.bytes.now (list_end a.width a.at a.bytes.now) (omega arith)

pub returns-then-bytes-from : goal.returns-then-bytes-from
returns-then-bytes-from c = let a = c.args in ends-out a.bytes.now (list_end a.width a.at a.bytes.now) (grind arith)

pub returns : goal.returns
returns c = let a = c.args in ends-in a.bytes.now (list_end a.width a.at a.bytes.now) _ (grind arith) (grind arith)
