use mathlib.Core.Path.{ap, sym, ◌∙◌}
use Rattle.std.specs.Prelude.{None, Some}
use Rattle.std.specs.Option.{unwrap_or}
use Rattle.text_bench.proofs.Reading.{is-read}
use Rattle.text_bench.proofs.bench_parse_hash.Goals as goal

pub returns-in_default : goal.returns-in_default
returns-in_default c =
    let none = sym c.in_default.is ∙ c.parse_hash.ensures in
    (is-read None c.args.text.now none, ap (λ o. unwrap_or o c.args.hash.now) none)

pub returns : goal.returns
returns c = (is-read (Some c.in-Some.parsed) c.args.text.now c.in-Some.ensures, ap (λ o. unwrap_or o c.args.hash.now) c.in-Some.ensures)
