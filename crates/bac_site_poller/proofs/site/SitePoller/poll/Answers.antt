use Rattle.std.proofs.Common.{◌∙◌, List, [], ap, inr, subst}
use Rattle.std.proofs.lemmas.Result.{IfOk-weaker}
use Rattle.bac_site_poller.specs.Site.{GivesNews, GivesWaiting, MayAct, NoneActs, SiteState}
use Rattle.bac_site_poller.specs.declared.seat.Seat.{Seat}
use Rattle.bac_site_poller.proofs.site.SitePoller.poll.Goals as goal

pub act_at-requires : goal.act_at-requires
act_at-requires c =
    let active = c.as_slice.ensures.value ∙ ap (λ (s : SiteState). s.active) c.self.view_is in
    let P : List Seat → Type 0 = λ l. MayAct l c.in-Some.place in
    subst P active c.in-Some.ensures.some

pub returns-in-None : goal.returns-in-None
returns-in-None c =
    let old = c.args.self.now in
    let active = c.as_slice.ensures.value ∙ ap (λ (s : SiteState). s.active) c.self.view_is in
    let P : List Seat → Type 0 = λ l. NoneActs l in
    let none : NoneActs old.active = subst P active c.in-None.ensures.none in
    IfOk-weaker c.wait.result (λ next. GivesWaiting old.is_stale old next c.wait.new.self) (λ next. GivesNews [] old next c.wait.new.self) (λ next gives. inr (none, gives)) c.wait.ensures
