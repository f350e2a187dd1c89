-- What a site makes of an event, without the port and the clock.
use Rattle.std.proofs.Common.{◌≡◌}
use Rattle.bac_drive.specs.Event.{Event, Kept, Printed, Read, Sent, Waited, Warned}
use Rattle.bac_drive.specs.Happens.{Learns}
use Rattle.bac_site_poller.specs.Site.{SiteHears, SiteState, site_read}
use Rattle.bac_site_poller.specs.SiteLaws.{SiteReads}

abbrev pub ToldSite : SiteState → Event → SiteState → Type 0
ToldSite old (Waited within heard) new = SiteHears old heard new
ToldSite old (Read ms) new = new ≡ site_read ms old
ToldSite old (Sent octets to answer) new = new ≡ old
ToldSite old (Kept puts) new = new ≡ old
ToldSite old (Printed text) new = new ≡ old
ToldSite old (Warned text) new = new ≡ old

pub told_site : (old new : SiteState) (e : Event) → Learns SiteHears SiteReads old e new → ToldSite old e new
told_site old new (Waited within heard) is = is
told_site old new (Read ms) is = is
told_site old new (Sent octets to answer) is = is
told_site old new (Kept puts) is = is
told_site old new (Printed text) is = is
told_site old new (Warned text) is = is
