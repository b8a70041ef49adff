use Rattle.short_rows.proofs.Reading.{nonce-fits}
use Rattle.short_rows.proofs.is_nonce.Goals as goal

pub returns : goal.returns
returns c = nonce-fits c.args.expected c.args.place c.ranges.expected.fits
