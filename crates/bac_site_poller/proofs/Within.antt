-- What is heard, and what time makes of it, keep the limits.
use Rattle.std.proofs.Common.{◌≡◌, ◌≤◌, ◌&&◌, ℕ, Bool, true, false, not, cond, if◌then◌else◌, List, [], ◌∷◌, map, max, take}
use Rattle.std.proofs.Common.{length, Option, Some, None, Ok, Err, nat_lt, refl, ap, arith}
use Rattle.std.proofs.lemmas.Bool.{ltb-false, ltb-true}
use Rattle.std.proofs.lemmas.List.{length-map}
use Rattle.std.proofs.lemmas.List.Sums.{sum_by-cons}
use Rattle.std.specs.List.{count_by}
use Rattle.std.specs.Str.{bytes_eq}
use Rattle.bac_wire.specs.Stamp.{CivilTime}
use Rattle.bac_ports.specs.Port.{Receiving}
use Rattle.bac_answers.specs.declared.way.Way.{Way}
use Rattle.bac_device_poller.specs.Poller.{PollerAs, is_answer, missed}
use Rattle.bac_site_poller.specs.Seat.{age, fresh_ms, is_at, is_due, is_first, is_fresh, seat_heard, seat_read}
use Rattle.bac_site_poller.specs.Site.{IsWithin, SiteState, given, is_asked_at, site_heard}
use Rattle.bac_site_poller.specs.SiteLaws.{OthersNotHeeded, StaysWithin}
use Rattle.bac_site_poller.specs.declared.seat.Seat.{Seat}
use Rattle.bac_site_poller.proofs.Same.{way_heard, way_missed}
use Rattle.bac_site_poller.proofs.Strays.{length_heeded, sum_heeded}

-- ---- the address stays

of_both_seats : (peer : List ℕ) (b : Bool) (s t : Seat) → s.poller.way.peer ≡ peer → t.poller.way.peer ≡ peer → (if b then s else t).poller.way.peer ≡ peer
of_both_seats peer true s t is also = is
of_both_seats peer false s t is also = also

pub peer_heard : (from datagram : List ℕ) (now : CivilTime) (s : Seat) → (seat_heard from datagram now s).poller.way.peer ≡ s.poller.way.peer
peer_heard from datagram now s = ap (λ (way : Way). way.peer) (way_heard from datagram now s.poller)

pub peer_read : (now : ℕ) (s : Seat) → (seat_read now s).poller.way.peer ≡ s.poller.way.peer
peer_read now s = of_both_seats s.poller.way.peer (is_due now s) _ s (ap (λ (way : Way). way.peer) (way_missed s.poller)) refl

-- ---- so do the counts, or they fall

abbrev pub tally : Bool → ℕ
tally b = cond b 1 0

-- what a step makes of a seat passes one test only where the seat passed another
abbrev pub NoMore : (before after : Seat → Bool) → (Seat → Seat) → Type 0
NoMore before after f = (s : Seat) → tally (after (f s)) ≤ tally (before s)

counted : (before after : Seat → Bool) (f : Seat → Seat) → NoMore before after f → (seats : List Seat) → count_by after (map f seats) ≤ count_by before seats
counted before after f none [] = omega arith
counted before after f none (s ∷ seats) =
    let first : tally (after (f s)) ≤ tally (before s) = none s in
    let rest = counted before after f none seats in
    omega (arith, first, rest, sum_by-cons (λ (x : Seat). tally (before x)) s seats, sum_by-cons (λ (x : Seat). tally (after x)) (f s) (map f seats))

none_at : (f : Seat → Seat) → ((s : Seat) → (f s).poller.way.peer ≡ s.poller.way.peer) → (peer : List ℕ) → NoMore (is_at peer) (is_at peer) f
none_at f same peer s =
    let e : tally (is_at peer (f s)) ≡ tally (is_at peer s) = ap (λ (q : List ℕ). tally (bytes_eq (take 4 q) (take 4 peer))) (same s) in omega (arith, e)

pub none_heard : (time : ℕ) (from datagram : List ℕ) (now : CivilTime) → NoMore (is_fresh time) (is_fresh time) (seat_heard from datagram now)
none_heard time from datagram now s = omega arith

-- what is fresh later, was so before
fresh_before : (first : Bool) (early late : ℕ) → early ≤ late → tally (first && nat_lt late fresh_ms) ≤ tally (first && nat_lt early fresh_ms)
fresh_before false early late less = omega arith
fresh_before true early late less = by (nat_lt late fresh_ms) (nat_lt early fresh_ms) refl refl
  where
    by : (x y : Bool) → nat_lt late fresh_ms ≡ x → nat_lt early fresh_ms ≡ y → tally x ≤ tally y
    by true true is also = omega arith
    by true false is also = absurd (omega (arith, ltb-true late fresh_ms is, ltb-false early fresh_ms also, less))
    by false y is also = omega arith

pub none_read : (time now : ℕ) → time ≤ now → NoMore (is_fresh time) (is_fresh now) (seat_read now)
none_read time now later s = by (is_due now s)
  where
    by : (b : Bool) → tally (is_fresh now (if b then record s { poller = missed s.poller; is_repeated = true } else s)) ≤ tally (is_fresh time s)
    by true = omega arith
    by false = fresh_before (is_first s) (age time s) (age now s) (omega (arith, later))

mapped : (f : Seat → Seat) → ((s : Seat) → (f s).poller.way.peer ≡ s.poller.way.peer) → (time now : ℕ) → NoMore (is_fresh time) (is_fresh now) f → (at_once each most : ℕ) (seats : List Seat) →
    count_by (is_fresh time) seats ≤ at_once → length seats ≤ most → ((peer : List ℕ) → count_by (is_at peer) seats ≤ each) →
    (count_by (is_fresh now) (map f seats) ≤ at_once) × (length (map f seats) ≤ most) × ((peer : List ℕ) → count_by (is_at peer) (map f seats) ≤ each)
mapped f same time now none at_once each most seats fresh few at = (
  let c = counted (is_fresh time) (is_fresh now) f none seats in omega (arith, c, fresh),
  omega (arith, few, length-map seats f),
  λ peer. let c = counted (is_at peer) (is_at peer) f (none_at f same peer) seats in let before = at peer in omega (arith, c, before),
)

-- ---- what nobody asked for

other : (b : Bool) (heard : PollerAs) (s : Seat) → b ≡ false → record s { poller = if b then heard else s.poller } ≡ s
other true heard s not = absurd (let e : true ≡ false = not in cc)
other false heard s not = refl

pub others_not_heeded : OthersNotHeeded
others_not_heeded = λ from datagram now s. (λ not. other (is_answer s.poller from datagram) _ s not, refl)

-- ---- the limits

heard_within : (s : SiteState) → IsWithin s → (now : CivilTime) (heard : Receiving) → IsWithin (site_heard now heard s)
heard_within s within now (Err fault) = within
heard_within s within now (Ok heard) = by heard.datagram
  where
    by : (o : Option (List ℕ)) → IsWithin (record s { is_stale = true; active = given (is_asked_at s heard.from) heard.from o now s.active })
    by None = within
    by (Some datagram) =
        let from = heard.from in
        let known = is_asked_at s from in
        let seats = map (seat_heard from datagram now) s.active in
        let more = mapped (seat_heard from datagram now) (peer_heard from datagram now) s.time s.time (none_heard s.time from datagram now) s.limits.at_once s.limits.at_host s.limits.most s.active within.0 within.1 within.2 in (
          omega (arith, more.0, sum_heeded (λ (x : Seat). tally (is_fresh s.time x)) from datagram (λ x. refl) known seats),
          omega (arith, more.1, length_heeded from datagram known seats),
          λ peer. let e = more.2 peer in omega (arith, e, sum_heeded (λ (x : Seat). tally (is_at peer x)) from datagram (λ x. refl) known seats),
        )

pub stays_within : StaysWithin
stays_within = λ s within. (
  heard_within s within,
  λ ms.
      let now = max s.time ms in
      mapped (seat_read now) (peer_read now) s.time now (none_read s.time now (omega arith)) s.limits.at_once s.limits.at_host s.limits.most s.active within.0 within.1 within.2,
)
