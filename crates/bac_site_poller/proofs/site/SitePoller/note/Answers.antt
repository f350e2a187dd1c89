use Rattle.std.proofs.Common.{◌≡◌, ◌∙◌, ◌++◌, Bool, true, ℕ, List, [], map, if◌then◌else◌, ap, sym, append_assoc}
use Rattle.std.proofs.lemmas.Result.{on_ok_weaker}
use Rattle.bac_device_poller.specs.declared.doing.Doing.{Doing}
use Rattle.bac_site_poller.specs.Hosts.{answered_at, is_answered, is_loss}
use Rattle.bac_site_poller.specs.Site.{SiteState, hosts_lost, news_lost, stray_by}
use Rattle.bac_site_poller.specs.declared.news.News.{News}
use Rattle.bac_site_poller.proofs.site.SitePoller.note.Goals as goal

pub returns-then-is_loss : goal.returns-then-is_loss
returns-then-is_loss c =
    let old = c.args.self.now in
    let seat = c.args.seat.now in
    let what : Doing = seat.poller.doing in
    let peer = c.peer-peer.result in
    let lost : is_loss what ≡ true = ap is_loss (sym c.doing.ensures) ∙ sym c.is_loss.ensures ∙ c.if-is_loss.true in
    let stray : List News = stray_by what seat in
    let F : SiteState → SiteState = λ s. record s { hosts = hosts_lost s peer } in
    let G : SiteState → SiteState = λ s. record s { news = s.news ++ stray } in
    let H : List News → SiteState = λ l. record old { hosts = hosts_lost old peer; news = l } in
    let N : Bool → List ℕ → SiteState = λ b q. record old {
      hosts = if b then hosts_lost old q else (if is_answered what then map (answered_at old.limits.at_host q) old.hosts else old.hosts);
      news = old.news ++ ((if b then news_lost old q else []) ++ stray);
    } in
    on_ok_weaker c.note_stray.result
    (λ is.
    is ∙ ap G (c.in_ok-slow.ensures ∙ ap F c.in_ok-note_loss.ensures)
    ∙ ap H (append_assoc old.news (news_lost old peer) stray)
    ∙ ap (λ (b : Bool). N b peer) (sym lost)
    ∙ ap (λ (q : List ℕ). N (is_loss what) q) c.peer-peer.ensures)
    c.note_stray.ensures
