use Rattle.std.proofs.Common.{◌≡◌, ◌↔◌, ℕ, List, Some, false, true, length, slice_get, refl, subst, ap, arith}
use Rattle.std.proofs.lemmas.Option.{slice_get_read, slice_get_within}
use Rattle.std.specs.Bool.{OnFalse, OnTrue}
use Rattle.bac_site_poller.specs.Site.{HasPlaceAt, MayAsk, SiteState}
use Rattle.bac_site_poller.specs.declared.seat.Seat.{Seat}
use Rattle.bac_site_poller.proofs.Places.{may_ask}
use Rattle.bac_site_poller.proofs.site.SitePoller.is_free.Goals as goal

told : (c : goal.After-has_place_at) → OnTrue c.has_place_at.result (MayAsk c.args.self.now c.args.place) × OnFalse c.has_place_at.result (MayAsk c.args.self.now c.args.place → ⊥)
told c =
    let seat = c.in-Some.seat.now in
    let there = c.in-Some.ensures.item in
    let same : c.self.inside.waiting.items ≡ c.args.self.now.waiting = ap (λ (s : SiteState). s.waiting) c.self.view_is in
    let P : List Seat → Type 0 = λ l. slice_get l c.args.place ≡ Some seat in
    let at = subst P same (slice_get_read c.self.inside.waiting.items (length c.self.inside.waiting.items) c.args.place seat refl there.3.0 there.1) in
    let Q : List ℕ → Type 0 = λ q. (c.has_place_at.result ≡ true) ↔ HasPlaceAt c.args.self.now q in
    may_ask c.args.self.now c.args.place seat c.has_place_at.result at c.requires (subst Q c.peer.ensures c.has_place_at.ensures)

pub returns-in-Some-clause-free : goal.returns-in-Some-clause-free
returns-in-Some-clause-free c = (told c).0

pub returns-in-Some-clause-full : goal.returns-in-Some-clause-full
returns-in-Some-clause-full c = (told c).1

pub returns-in-None-clause-full : goal.returns-in-None-clause-full
returns-in-None-clause-full c = λ may.
    let old = c.args.self.now in
    let below = slice_get_within old.waiting c.args.place may.0 may.1 in
    let same : length c.self.inside.waiting.items ≡ length old.waiting = ap (λ (s : SiteState). length s.waiting) c.self.view_is in
    let is : false ≡ true = c.in-None.ensures.variant.1 (omega (arith, below, same, c.self.inside.waiting.ok.0)) in
    absurd (cc)
