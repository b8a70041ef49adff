use mathlib.Core.Path.{sym, ◌∙◌}
use native.Mathlib.Omega.{arith}
use Rattle.console.specs.Waiting.{waits}
use Rattle.console.proofs.Putting.{hex-turn, hex-done}
use Rattle.console.proofs.output.Output.hex.Goals as goal

pub loop-byte-preserved : goal.loop-byte-preserved
loop-byte-preserved c =
    let l = c.loop-byte in
    hex-turn c.args.bytes.now (waits l.self) _ _ l.byte-index (omega arith) c.hex_pair.ensures c.text.ensures ∙ l.invariant

pub returns : goal.returns
returns c =
    let l = c.loop-byte in
    sym (hex-done c.args.bytes.now (waits l.self) l.byte-index (omega arith)) ∙ l.invariant
