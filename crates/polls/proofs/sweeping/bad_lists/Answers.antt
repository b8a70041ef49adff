use mathlib.Core.Path.{sym, ◌∙◌}
use mathlib.Core.Bool.{true≢false}
use borrow.Author.Tests.{lt-ltb, le-ltb}
use Rattle.store_rules.specs.Sweeps.{bad_lists}
use Rattle.polls.proofs.sweeping.bad_lists.Goals as goal
use Rattle.polls.proofs.sweeping.bad_lists.Goals.{then-n-gt64, else-n-gt64}

pub returns-then-senders-n : goal.returns-then-senders-n
unfolding bad_lists
returns-then-senders-n c =
    elim c.if-n-gt64.branch [
      | then-n-gt64 w ↦ rw (w.value-is, lt-ltb _ _ w.if-n-gt64.true)
      | else-n-gt64 w ↦ rw (c.if-senders-n.true, le-ltb _ _ w.if-n-gt64.false, sym w.value-is ∙ c.if-senders-n.true)
    ]

pub returns-else-senders-n : goal.returns-else-senders-n
unfolding bad_lists
returns-else-senders-n c =
    elim c.if-n-gt64.branch [
      | then-n-gt64 w ↦ absurd (true≢false (sym (lt-ltb _ _ w.if-n-gt64.true) ∙ sym w.value-is ∙ c.if-senders-n.false))
      | else-n-gt64 w ↦ rw (le-ltb _ _ w.if-n-gt64.false, sym w.value-is ∙ c.if-senders-n.false)
    ]
