use Rattle.bac_site_poller.proofs.PlacesFree.{places_come_free}
use Rattle.bac_site_poller.proofs.laws.places_come_free.Goals as goal

pub returns : goal.returns
returns c = places_come_free
