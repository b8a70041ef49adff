use borrow.Author.Tests.{lt-ltb, le-ltb}
use Rattle.store_rules.specs.Store.{bad_content}
use Rattle.polls.proofs.polling.bad_content.Goals as goal

pub returns-then-pairs-gt64 : goal.returns-then-pairs-gt64
unfolding bad_content
returns-then-pairs-gt64 c = rw (c.in-Some.is, lt-ltb _ _ c.if-pairs-gt64.true)

pub returns-else-pairs-gt64 : goal.returns-else-pairs-gt64
unfolding bad_content
returns-else-pairs-gt64 c = rw (c.in-Some.is, le-ltb _ _ c.if-pairs-gt64.false)

pub returns-in-None : goal.returns-in-None
unfolding bad_content
returns-in-None c = rw c.in-None.is
