use Rattle.std.proofs.Common.{◌≡◌, ◌∙◌, Bool, ℕ, List, [], ap, arith, subst, sym}
use Rattle.bac_site_poller.specs.Seat.{until}
use Rattle.bac_site_poller.specs.Site.{IsNearest, SiteState}
use Rattle.bac_site_poller.specs.declared.seat.Seat.{Seat}
use Rattle.bac_site_poller.proofs.Places.{none_waits}
use Rattle.bac_site_poller.proofs.site.SitePoller.rest.Goals as goal

pub returns-in-Some : goal.returns-in-Some
returns-in-Some c =
    let old = c.args.self.now in
    let active = c.as_slice.ensures.value ∙ ap (λ (s : SiteState). s.active) c.self.view_is in
    let time = ap (λ (s : SiteState). s.time) c.self.view_is in
    let wanted = c.is_place_wanted-is_wanted.ensures in
    let P : List Seat → Type 0 = λ l. IsNearest (until c.is_place_wanted-is_wanted.result c.self.inside.time) l c.in-Some.due in
    let T : ℕ → Type 0 = λ t. IsNearest (until c.is_place_wanted-is_wanted.result t) old.active c.in-Some.due in
    let B : Bool → Type 0 = λ b. IsNearest (until b old.time) old.active c.in-Some.due in
    let nearest = subst B wanted (subst T time (subst P active c.in-Some.ensures.some)) in
    (c.in-Some.due, nearest, omega (arith, c.min.ensures, c.saturating_sub.ensures, c.from.ensures, time))

pub returns-in-None : goal.returns-in-None
returns-in-None c =
    let old = c.args.self.now in
    let active = c.as_slice.ensures.value ∙ ap (λ (s : SiteState). s.active) c.self.view_is in
    let none : old.active ≡ [] = sym active ∙ c.in-None.ensures.none in
    (none, none_waits old none c.requires)
