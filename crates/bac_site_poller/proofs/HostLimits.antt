-- The limit that holds at the host of an address.
use Rattle.std.proofs.Common.{◌≡◌, ◌≤◌, ◌<◌, ◌+◌, inl, inr, ℕ, Bool, true, false, cond, max, List, [], ◌∷◌, ◌++◌, map}
use Rattle.std.proofs.Common.{take, get_or, remove, slice_get, Option, None, Some, Ok, Err, refl, sym, ap, subst, arith}
use Rattle.std.proofs.Common.{◌∙◌}
use Rattle.std.proofs.lemmas.List.Sums.{sum_by-append, sum_by-cons, sum_by-remove}
use Rattle.std.proofs.lemmas.Option.{get_or_from_slice_get, same_Some, slice_get_within}
use Rattle.std.proofs.lemmas.Slice.Eq.{bytes_eq-Decides}
use Rattle.std.specs.List.{count_by, find}
use Rattle.std.specs.Str.{bytes_eq}
use Rattle.bac_ports.specs.Port.{Receiving}
use Rattle.bac_drive.specs.Event.{Event, Kept, Printed, Read, Sent, Waited, Warned}
use Rattle.bac_drive.specs.declared.machine.Next.{Next}
use Rattle.bac_wire.specs.Stamp.{CivilTime}
use Rattle.bac_site_poller.specs.Hosts.{limit_of}
use Rattle.bac_site_poller.specs.Seat.{is_at, seat_heard, seat_read, sent_at}
use Rattle.bac_site_poller.specs.Site.{GivesFrom, GivesNews, GivesWaiting, HasPlaceAt, MayAsk, SiteState, due_from}
use Rattle.bac_site_poller.specs.Site.{given, is_asked_at, limit_at, noted, put_by, site_heard}
use Rattle.bac_site_poller.specs.SiteLaws.{KeepsToLimits}
use Rattle.bac_site_poller.specs.declared.news.News.{News}
use Rattle.bac_device_poller.specs.declared.doing.Doing.{Doing}
use Rattle.bac_device_poller.specs.declared.doing.Doing.TheVariants as doing
use Rattle.bac_site_poller.specs.declared.seat.Seat.{Seat}
use Rattle.bac_site_poller.proofs.Told.{ToldSite, told_site}
use Rattle.bac_site_poller.proofs.Strays.{sum_heeded}
use Rattle.bac_site_poller.proofs.Within.{peer_heard, peer_read}
use Rattle.bac_site_poller.proofs.WithinRun.{peer_given}

abbrev tally : Bool → ℕ
tally b = cond b 1 0

-- how many are asked there
abbrev asked : List ℕ → SiteState → ℕ
asked peer s = count_by (is_at peer) s.active

-- ---- a seat goes where it belongs

one_more : (peer : List ℕ) (seats : List Seat) (s : Seat) → count_by (is_at peer) (seats ++ s ∷ []) ≡ count_by (is_at peer) seats + tally (is_at peer s)
one_more peer seats s = let f : Seat → ℕ = λ x. tally (is_at peer x) in omega (arith, sum_by-append f seats (s ∷ []), sum_by-cons f s [])

put_most : (peer : List ℕ) (what : Doing) (s : SiteState) (seat : Seat) → asked peer (put_by what s seat) ≤ asked peer s + tally (is_at peer seat)
put_most peer doing.Asks s seat = omega arith
put_most peer doing.Waits s seat = omega (arith, one_more peer s.active (record seat { due = due_from s }))
put_most peer (doing.Resends datagram) s seat = omega (arith, one_more peer s.active seat)
put_most peer (doing.Hears came) s seat = omega (arith, one_more peer s.active seat)
put_most peer doing.Loses s seat = omega (arith, one_more peer s.active seat)
put_most peer (doing.Tells end) s seat = omega (arith, one_more peer s.active seat)
put_most peer (doing.Ended why) s seat = omega arith

same_host : (peer : List ℕ) (s t : Seat) → t.poller.way.peer ≡ s.poller.way.peer → tally (is_at peer t) ≡ tally (is_at peer s)
same_host peer s t same = ap (λ (p : List ℕ). tally (bytes_eq (take 4 p) (take 4 peer))) same

from_most : (peer : List ℕ) (old : SiteState) (s : Seat) (wanted : Next) (new : SiteState) → GivesFrom old s wanted new → asked peer new ≤ asked peer old + tally (is_at peer s)
from_most peer old s wanted new (p, gives, is) =
    let t : Seat = record s { poller = p } in
    let o : SiteState = record old { ids = p.rows.ids } in
    let e : asked peer new ≡ asked peer (put_by p.doing o t) = ap (asked peer) is in
    omega (arith, e, put_most peer p.doing o t, same_host peer s t (peer_given old.ids s.poller.doing s.poller p wanted gives))

-- ---- what it wants

but_one : (peer : List ℕ) (seats : List Seat) (place : ℕ) (s : Seat) → slice_get seats place ≡ Some s → count_by (is_at peer) (remove seats place) + tally (is_at peer s) ≡ count_by (is_at peer) seats
but_one peer seats place s there =
    let f : Seat → ℕ = λ x. tally (is_at peer x) in
    let is : f (get_or seats place s) ≡ f s = ap f (get_or_from_slice_get seats place s s there) in
    omega (arith, is, sum_by-remove f seats place s (slice_get_within seats place s there))

-- one for which there is room at its host
room_most : (peer : List ℕ) (old : SiteState) (s : Seat) → HasPlaceAt old s.poller.way.peer → asked peer old + tally (is_at peer s) ≤ max (asked peer old) (limit_at old peer)
room_most peer old s room = by (is_at peer s) refl
  where
    by : (b : Bool) → is_at peer s ≡ b → asked peer old + tally (is_at peer s) ≤ max (asked peer old) (limit_at old peer)
    by true here =
        let e : take 4 s.poller.way.peer ≡ take 4 peer = (bytes_eq-Decides (take 4 s.poller.way.peer) (take 4 peer)).0 here in
        let P : List ℕ → Type 0 = λ h. count_by (λ x. bytes_eq (take 4 x.poller.way.peer) h) old.active < limit_of old.limits.at_host (find (λ x. bytes_eq (take 4 x.peer) h) old.hosts) in
        let less : asked peer old < limit_at old peer = subst P e room in
        let one : tally (is_at peer s) ≡ 1 = ap tally here in
        omega (arith, less, one)
    by false here = let none : tally (is_at peer s) ≡ 0 = ap tally here in omega (arith, none)

asked_most : (peer : List ℕ) (old : SiteState) (place : ℕ) (s : Seat) (wanted : Next) (new : SiteState) → slice_get old.waiting place ≡ Some s → MayAsk old place →
    GivesFrom (record old { waiting = remove old.waiting place }) (sent_at old.time s) wanted new → asked peer new ≤ max (asked peer old) (limit_at old peer)
asked_most peer old place s wanted new there (t, also, rooms) gives =
    let P : Seat → Type 0 = λ x. HasPlaceAt old x.poller.way.peer in
    let e : Some t ≡ Some s = sym also ∙ there in
    let room : HasPlaceAt old s.poller.way.peer = subst P (same_Some t s e) rooms.1 in
    omega (arith, from_most peer (record old { waiting = remove old.waiting place }) (sent_at old.time s) wanted new gives, room_most peer old s room)

waiting_most : (peer : List ℕ) (stale : Bool) (old : SiteState) (wanted : Next) (new : SiteState) → GivesWaiting stale old wanted new → asked peer new ≤ max (asked peer old) (limit_at old peer)
waiting_most peer true old wanted new (is_read, same) = let e : asked peer new ≡ asked peer old = ap (asked peer) same in omega (arith, e)
waiting_most peer false old wanted new (inl (place, s, there, next, gives)) = asked_most peer old place s wanted new there next.0 gives
waiting_most peer false old wanted new (inr (none, rests, same)) = let e : asked peer new ≡ asked peer old = ap (asked peer) same in omega (arith, e)

news_most : (peer : List ℕ) (l : List News) (old : SiteState) (wanted : Next) (new : SiteState) → GivesNews l old wanted new → asked peer new ≤ max (asked peer old) (limit_at old peer)
news_most peer (news ∷ others) old wanted new (told, is) = let e : asked peer new ≡ asked peer old = ap (asked peer) is in omega (arith, e)
news_most peer [] old wanted new (inl (place, s, there, not, acts)) =
    omega (arith, from_most peer (noted (record old { active = remove old.active place }) s) s wanted new acts, but_one peer old.active place s there)
news_most peer [] old wanted new (inr (none, gives)) = waiting_most peer old.is_stale old wanted new gives

-- ---- what it makes of what comes

same_count : (f : Seat → Seat) → ((s : Seat) → (f s).poller.way.peer ≡ s.poller.way.peer) → (peer : List ℕ) (seats : List Seat) → count_by (is_at peer) (map f seats) ≡ count_by (is_at peer) seats
same_count f same peer [] = refl
same_count f same peer (s ∷ seats) =
    let rest = same_count f same peer seats in
    omega (arith, same_host peer s (f s) (same s), rest, sum_by-cons (λ (x : Seat). tally (is_at peer x)) s seats, sum_by-cons (λ (x : Seat). tally (is_at peer x)) (f s) (map f seats))

heard_same : (peer : List ℕ) (now : CivilTime) (heard : Receiving) (s : SiteState) → asked peer (site_heard now heard s) ≡ asked peer s
heard_same peer now (Err fault) s = refl
heard_same peer now (Ok heard) s = by heard.datagram
  where
    by : (o : Option (List ℕ)) → count_by (is_at peer) (given (is_asked_at s heard.from) heard.from o now s.active) ≡ count_by (is_at peer) s.active
    by None = refl
    by (Some datagram) =
        let from = heard.from in
        sum_heeded (λ (x : Seat). tally (is_at peer x)) from datagram (λ x. refl) (is_asked_at s from) (map (seat_heard from datagram now) s.active)
        ∙ same_count (seat_heard from datagram now) (peer_heard from datagram now) peer s.active

told_same : (peer : List ℕ) (e : Event) (mid new : SiteState) → ToldSite mid e new → asked peer new ≡ asked peer mid
told_same peer (Waited within heard) mid new (now, moment, is) = ap (asked peer) is ∙ heard_same peer now heard mid
told_same peer (Read ms) mid new is = ap (asked peer) is ∙ same_count (seat_read (max mid.time ms)) (peer_read (max mid.time ms)) peer mid.active
told_same peer (Sent octets to answer) mid new is = ap (asked peer) is
told_same peer (Kept puts) mid new is = ap (asked peer) is
told_same peer (Printed text) mid new is = ap (asked peer) is
told_same peer (Warned text) mid new is = ap (asked peer) is

pub keeps_to_limits : KeepsToLimits
keeps_to_limits = λ old new e peer (wanted, half, gives, does, is).
    let told = told_same peer e half new (told_site half new e is) in
    omega (arith, told, news_most peer old.news old wanted half gives)
