use Rattle.std.proofs.Common.{[]}
use Rattle.replay.proofs.Sizes.{size-within}
use Rattle.replay.proofs.calls.short_poll.Goals as goal

pub returns : goal.returns
returns c = size-within _ _ _ _ _ _ _ _ c.make_poll-made.result c.shown.result (c.make_poll-made.ensures []) c.shown.ensures
