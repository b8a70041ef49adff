use Rattle.std.proofs.Common.{rules, ◌≡◌, ◌∙◌}
use Rattle.std.specs.List.{count_by}
use Rattle.lists.specs.Bytes.{eq_bytes}
use Rattle.store_rules.specs.Lookup.{entries_of}
use Rattle.store_rules.proofs.Searches.{counted}
use Rattle.store_rules.proofs.lookup.count_of.Goals as goal

pub returns : goal.returns
unfolding entries_of
returns c =
    let k : c.count.result ≡ count_by (λ e. eq_bytes e.frame.from c.args.sender) c.args.entries.now = search rules in
    k ∙ counted (λ e. eq_bytes e.frame.from c.args.sender) c.args.entries.now
