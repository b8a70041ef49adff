use Rattle.store_laws.proofs.ShortRows.{every-short-row}
use Rattle.store_laws.proofs.every_short_row.Goals as goal

pub returns : goal.returns
returns c = every-short-row
