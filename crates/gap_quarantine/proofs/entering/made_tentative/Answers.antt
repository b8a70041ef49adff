use Rattle.store_rules.specs.Lookup.{enter_with}
use Rattle.gap_quarantine.proofs.entering.made_tentative.Goals as goal

pub returns : goal.returns
unfolding enter_with
returns c = rw c.with_state.ensures
