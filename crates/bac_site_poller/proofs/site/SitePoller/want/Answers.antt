use Rattle.std.proofs.Common.{◌≡◌, ◌∙◌, List, [], ◌∷◌, length, refl, ap, sym, subst, arith}
use Rattle.std.proofs.lemmas.Result.{IfOk-weaker}
use Rattle.bac_site_poller.specs.Site.{GivesNews, GivesSite, SiteState}
use Rattle.bac_site_poller.specs.declared.news.News.{News}
use Rattle.bac_site_poller.proofs.site.SitePoller.want.Goals as goal

none_of : (l : List News) → length l ≡ 0 → l ≡ []
none_of [] is = refl
none_of (news ∷ others) is = absurd (omega (arith, is))

pub returns-in-None : goal.returns-in-None
returns-in-None c =
    let old = c.args.self.now in
    let inside = c.self.inside in
    let view : List News → SiteState = λ l. record {
      limits = inside.limits;
      begun = inside.begun;
      time = inside.time;
      is_stale = inside.is_stale;
      ids = inside.ids;
      active = inside.active.items;
      waiting = inside.waiting.items;
      ended = inside.ended.items;
      hosts = inside.hosts.items;
      news = l;
    } in
    let none : inside.news.items ≡ [] = none_of inside.news.items (omega (arith, c.in-None.ensures.cases.0, inside.news.ok.0)) in
    let gone : c.pop_front.new.self.items ≡ [] = sym c.in-None.ensures.items ∙ none in
    let mid_is : view c.pop_front.new.self.items ≡ old = ap view gone ∙ sym (ap view none) ∙ c.self.view_is in
    let news_is : old.news ≡ [] = sym (ap (λ (s : SiteState). s.news) c.self.view_is) ∙ none in
    IfOk-weaker c.poll.result (λ next. GivesNews [] (view c.pop_front.new.self.items) next c.poll.new.self) (λ next. GivesSite old next c.poll.new.self)
    (λ next gives.
    let P : SiteState → Type 0 = λ s. GivesNews [] s next c.poll.new.self in
    let Q : List News → Type 0 = λ l. GivesNews l old next c.poll.new.self in
    subst Q (sym news_is) (subst P mid_is gives))
    c.poll.ensures
