use Rattle.store_laws.proofs.Listings.{every-listing}
use Rattle.store_laws.proofs.every_listing.Goals as goal

pub returns : goal.returns
returns c = every-listing
