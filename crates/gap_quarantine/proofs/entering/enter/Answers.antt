use mathlib.Core.Path.{sym, ap, ◌∙◌}
use borrow.Author.Rules.{rules}
use Rattle.lists.proofs.Compacting.{long}
use Rattle.store_rules.specs.Lookup.{enters}
use Rattle.store_rules.specs.Searching.{found_first}
use Rattle.gap_quarantine.proofs.EnterSteps.{absent, present}
use Rattle.gap_quarantine.proofs.entering.enter.Goals as goal

pub returns-in_err-found : goal.returns-in_err-found
returns-in_err-found c =
    rw c.from_residual.ensures
    (absent c.args.h.now c.args.hash _ (sym c.in_err-found.was ∙ c.first_sought.ensures.found ∙ ap (found_first (enters c.args.hash)) c.frames.ensures.value))

pub returns : goal.returns
returns c =
    present c.args.h.now c.args.hash _ c.in_ok-found.found
    (sym c.in_ok-found.was ∙ c.first_sought.ensures.found ∙ ap (found_first (enters c.args.hash)) c.frames.ensures.value)
    _ c.made_tentative.result _ (search (rules, long)) c.made_tentative.ensures c.drop_guard.ensures
