-- From where else an answer came is noticed only where it may be so.
use Rattle.std.proofs.Common.{◌≡◌, ◌⊎◌, ◌∙◌, ◌&&◌, inl, inr, ℕ, Bool, true, false, not, if◌then◌else◌, List, map, slice_get}
use Rattle.std.proofs.Common.{option_map, Option, None, Some, ap, refl, sym, subst}
use Rattle.std.specs.Str.{bytes_eq}
use Rattle.std.proofs.lemmas.Option.{same_Some, slice_get-map}
use Rattle.bac_ports.specs.declared.port.Heard.{Heard}
use Rattle.bac_wire.specs.Stamp.{CivilTime}
use Rattle.bac_device_poller.specs.Poller.{PollerAs, hearing, is_answer}
use Rattle.bac_site_poller.specs.Seat.{is_stray, noticed, seat_heard}
use Rattle.bac_site_poller.specs.Site.{SiteState, given, heeded, is_asked_at}
use Rattle.bac_site_poller.specs.SiteLaws.{MayBeStray, StraysMayBe}
use Rattle.bac_site_poller.specs.declared.seat.Seat.{Seat}

-- what it is noticed of is open still
none_open : (a : Bool) → (a && false) ≡ true → ⊥
none_open true is = absurd (cc)
none_open false is = absurd (cc)

stray_before : (from datagram : List ℕ) (now : CivilTime) (s : Seat) → is_stray from datagram (seat_heard from datagram now s) ≡ true →
    is_stray from datagram s ≡ true
stray_before from datagram now s = by (is_answer s.poller from datagram)
  where
    taken : PollerAs
    taken = hearing from datagram now s.poller

    by : (b : Bool) → is_stray from datagram (record s { poller = if b then taken else s.poller }) ≡ true → is_stray from datagram s ≡ true
    by true is = absurd (none_open (not (bytes_eq from s.poller.way.peer)) is)
    by false is = is

-- what comes of one
noticed_of : (s : SiteState) (now : CivilTime) (heard : Heard) (datagram : List ℕ) (old : Seat) → heard.datagram ≡ Some datagram →
    is_asked_at s heard.from ≡ false →
    let new : Seat = noticed heard.from datagram (seat_heard heard.from datagram now old) in
    (new.stray ≡ old.stray) ⊎ ((new.stray ≡ Some heard.from) × MayBeStray s heard old)
noticed_of s now heard datagram old came unknown = by (is_stray heard.from datagram (seat_heard heard.from datagram now old)) refl
  where
    by : (b : Bool) → is_stray heard.from datagram (seat_heard heard.from datagram now old) ≡ b →
        let stray : Option (List ℕ) = if b then Some heard.from else old.stray in
        (stray ≡ old.stray) ⊎ ((stray ≡ Some heard.from) × MayBeStray s heard old)
    by true is = inr (refl, (datagram, came, stray_before heard.from datagram now old is, unknown))
    by false is = inl refl

-- the one at a place, where each became another one
placed : (f : Seat → Seat) (seats : List Seat) (place : ℕ) (old : Seat) → slice_get seats place ≡ Some old →
    slice_get (map f seats) place ≡ Some (f old)
placed f seats place old at = slice_get-map f seats place ∙ ap (option_map f) at

pub strays_may_be : StraysMayBe
strays_may_be s now heard place old new at = by heard.datagram refl
  where
    by : (o : Option (List ℕ)) → heard.datagram ≡ o →
        slice_get (given (is_asked_at s heard.from) heard.from o now s.active) place ≡ Some new →
        (new.stray ≡ old.stray) ⊎ ((new.stray ≡ Some heard.from) × MayBeStray s heard old)
    by None came is = inl (ap (λ (x : Seat). x.stray) (same_Some new old (sym is ∙ at)))
    by (Some datagram) came is = known (is_asked_at s heard.from) refl is
      where
        here : slice_get (map (seat_heard heard.from datagram now) s.active) place ≡ Some (seat_heard heard.from datagram now old)
        here = placed (seat_heard heard.from datagram now) s.active place old at

        known : (b : Bool) → is_asked_at s heard.from ≡ b →
            slice_get (heeded b heard.from datagram (map (seat_heard heard.from datagram now) s.active)) place ≡ Some new →
            (new.stray ≡ old.stray) ⊎ ((new.stray ≡ Some heard.from) × MayBeStray s heard old)
        known true k is = inl (ap (λ (x : Seat). x.stray) (same_Some new (seat_heard heard.from datagram now old) (sym is ∙ here)))
        known false k is =
            let one : Seat = seat_heard heard.from datagram now old in
            let all : new ≡ noticed heard.from datagram one =
            same_Some new (noticed heard.from datagram one)
            (sym is ∙ placed (noticed heard.from datagram) (map (seat_heard heard.from datagram now) s.active) place one here) in
            let P : Seat → Type 0 = λ x. (x.stray ≡ old.stray) ⊎ ((x.stray ≡ Some heard.from) × MayBeStray s heard old) in
            subst P (sym all) (noticed_of s now heard datagram old came k)
