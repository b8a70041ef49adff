use Rattle.std.proofs.Common.{inl, inr}
use Rattle.store_rules.specs.Answers.{taker_hash}
use Rattle.store_rules.proofs.taker_of.Goals as goal

pub returns-in-MinedAt : goal.returns-in-MinedAt
unfolding taker_hash
returns-in-MinedAt c = λ hash. elim c.in-MinedAt.is [ inl a ↦ rw a.1 | inr b ↦ rw b.1 ]

pub returns-in-SlotTakenBy : goal.returns-in-SlotTakenBy
unfolding taker_hash
returns-in-SlotTakenBy c = λ hash. rw c.in-SlotTakenBy.is
