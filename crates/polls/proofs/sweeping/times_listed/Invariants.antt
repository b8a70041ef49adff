use Rattle.polls.proofs.ListedSenders.{Times}
use Rattle.polls.proofs.sweeping.times_listed.Given as goal

abbrev pub invariant-loop-sender : goal.invariant-loop-sender
invariant-loop-sender l = Times l.address l.fn.senders l.sender-iterator l.times
