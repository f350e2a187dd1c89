use Rattle.std.proofs.Common.{subst}
use Rattle.bac_site_poller.specs.Moment.{IsAfter}
use Rattle.bac_site_poller.specs.Site.{SiteState}
use Rattle.bac_site_poller.proofs.site.SitePoller.hear_any.Goals as goal

pub returns : goal.returns
returns c =
    let now = c.moment_after-now.result in
    let P : SiteState → Type 0 = λ s. IsAfter s.begun s.time now in
    (now, subst P c.self.view_is c.moment_after-now.ensures, c.hear_at.ensures)
