use Rattle.std.proofs.Common.{rules, ◌≡◌, ◌∙◌}
use Rattle.std.specs.List.{count_by}
use Rattle.decisions.specs.Selections.{selected}
use Rattle.store_rules.specs.View.{entry_of}
use Rattle.store_rules.proofs.Searches.{counted}
use Rattle.gap_quarantine.proofs.passing.count_selected.Goals as goal

pub returns : goal.returns
returns c =
    let k : c.count.result ≡ count_by (λ e. selected c.args.s (entry_of e)) c.args.entries.now = search rules in
    k ∙ counted (selected c.args.s) c.args.entries.now
