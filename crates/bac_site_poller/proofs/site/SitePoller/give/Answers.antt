use Rattle.std.proofs.Common.{◌∙◌, ap, subst}
use Rattle.bac_device_poller.specs.Poller.{PollerAs}
use Rattle.bac_device_poller.specs.declared.ids.Ids.{Ids}
use Rattle.bac_site_poller.specs.Seat.{Wants, lent}
use Rattle.bac_site_poller.specs.Site.{SiteState, put}
use Rattle.bac_site_poller.proofs.site.SitePoller.give.Goals as goal

pub returns : goal.returns
returns c =
    let old = c.args.self.now in
    let seat = c.args.seat in
    let p = c.want.new.poller in
    let L : SiteState → PollerAs = λ s. lent s.ids seat.poller in
    let W : PollerAs → Type 0 = λ q. Wants q.doing q c.in_ok-next.next p in
    let F : Ids → SiteState → SiteState = λ ids s. put (record s { ids = ids }) (record seat { poller = p }) in (
      p,
      subst W (c.lend.ensures ∙ ap L c.self.view_is) c.in_ok-next.ensures,
      c.in_ok-put.ensures ∙ ap (λ (s : SiteState). F c.ids-self-inside.result s) c.self.view_is ∙ ap (λ (ids : Ids). F ids old) c.ids-self-inside.ensures,
    )
