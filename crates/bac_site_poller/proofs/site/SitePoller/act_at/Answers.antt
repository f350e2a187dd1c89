use Rattle.std.proofs.Common.{◌≡◌, ◌∙◌, List, get_or, ap, subst}
use Rattle.std.proofs.lemmas.Option.{get_or_from_slice_get}
use Rattle.std.proofs.lemmas.Result.{IfOk-weaker}
use Rattle.std.specs.List.{remove}
use Rattle.bac_site_poller.specs.Site.{GivesFrom, IsActed, SiteState, noted}
use Rattle.bac_site_poller.specs.declared.seat.Seat.{Seat}
use Rattle.bac_site_poller.proofs.site.SitePoller.act_at.Goals as goal

pub returns : goal.returns
returns c =
    let old = c.args.self.now in
    let (s, there, not) = c.requires in
    let seat = c.remove-seat.result in
    let same_list : c.self.inside.active.items ≡ old.active = ap (λ (x : SiteState). x.active) c.self.view_is in
    let P : List Seat → Type 0 = λ l. seat ≡ get_or l c.args.place seat in
    let is : seat ≡ s = subst P same_list c.remove-seat.ensures.value ∙ get_or_from_slice_get old.active c.args.place s seat there in
    let less : SiteState → SiteState = λ o. record o { active = remove o.active c.args.place } in
    let view : SiteState = record {
      limits = c.self.inside.limits;
      begun = c.self.inside.begun;
      time = c.self.inside.time;
      is_stale = c.self.inside.is_stale;
      ids = c.self.inside.ids;
      active = c.self.inside.active.items;
      waiting = c.self.inside.waiting.items;
      ended = c.self.inside.ended.items;
      hosts = c.self.inside.hosts.items;
      news = c.self.inside.news.items;
    } in
    let mid : SiteState = record view { active = c.remove-seat.new.self.items } in
    let mid_is : mid ≡ less old = ap (λ (l : List Seat). record view { active = l }) c.remove-seat.ensures.items ∙ ap less c.self.view_is in
    let half : SiteState = c.note.new.self in
    let half_is : half ≡ noted (less old) seat = c.in_ok-note.ensures ∙ ap (λ (o : SiteState). noted o seat) mid_is in
    IfOk-weaker c.give.result (λ next. GivesFrom half seat next c.give.new.self) (λ next. IsActed old next c.give.new.self)
    (λ next gives.
    let P2 : Seat → Type 0 = λ t. GivesFrom (noted (less old) t) t next c.give.new.self in
    let P3 : SiteState → Type 0 = λ o. GivesFrom o seat next c.give.new.self in
    (c.args.place, s, there, not, subst P2 is (subst P3 half_is gives)))
    c.give.ensures
