use Rattle.std.proofs.Common.{◌≡◌, ◌∙◌, ℕ, List, get_or, ap, subst}
use Rattle.std.proofs.lemmas.Option.{get_or_from_slice_get}
use Rattle.std.proofs.lemmas.Result.{IfOk-weaker}
use Rattle.std.specs.List.{remove}
use Rattle.bac_site_poller.specs.Seat.{sent_at}
use Rattle.bac_site_poller.specs.Site.{GivesFrom, IsAsked, SiteState}
use Rattle.bac_site_poller.specs.declared.seat.Seat.{Seat}
use Rattle.bac_site_poller.proofs.site.SitePoller.ask_at.Goals as goal

pub returns : goal.returns
returns c =
    let old = c.args.self.now in
    let ((s, there, room), before) = c.requires in
    let first = c.in-Some.seat in
    let same_list : c.self.inside.waiting.items ≡ old.waiting = ap (λ (x : SiteState). x.waiting) c.self.view_is in
    let P : List Seat → Type 0 = λ l. first ≡ get_or l c.args.place first in
    let is : first ≡ s = subst P same_list c.in-Some.ensures.value ∙ get_or_from_slice_get old.waiting c.args.place s first there in
    let less : SiteState → SiteState = λ o. record o { waiting = remove o.waiting c.args.place } in
    let view : SiteState = record {
      limits = c.self.inside.limits;
      begun = c.self.inside.begun;
      time = c.self.inside.time;
      is_stale = c.self.inside.is_stale;
      ids = c.self.inside.ids;
      active = c.self.inside.active.items;
      waiting = c.self.inside.waiting.items;
      ended = c.self.inside.ended.items;
      hosts = c.self.inside.hosts.items;
      news = c.self.inside.news.items;
    } in
    let time : c.self.inside.time ≡ old.time = ap (λ (x : SiteState). x.time) c.self.view_is in
    let seat = c.send.new.self in
    let seat_is : seat ≡ sent_at old.time s = c.send.ensures ∙ ap (λ (t : ℕ). sent_at t first) time ∙ ap (sent_at old.time) is in
    let mid : SiteState = record view { waiting = c.remove.new.self.items } in
    let mid_is : mid ≡ less old = ap (λ (l : List Seat). record view { waiting = l }) c.in-Some.ensures.items ∙ ap less c.self.view_is in
    IfOk-weaker c.give.result (λ next. GivesFrom mid seat next c.give.new.self) (λ next. IsAsked old next c.give.new.self)
    (λ next acts.
    let P2 : Seat → Type 0 = λ t. GivesFrom mid t next c.give.new.self in
    let P3 : SiteState → Type 0 = λ o. GivesFrom o (sent_at old.time s) next c.give.new.self in
    (c.args.place, s, there, c.requires, subst P3 mid_is (subst P2 seat_is acts)))
    c.give.ensures
