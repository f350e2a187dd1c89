-- When a site has ended, so have all of its devices.
use Rattle.std.proofs.Common.{◌≡◌, ◌+◌, ◌∙◌, inl, inr, ℕ, Bool, true, false, cond, List, [], ◌∷◌, ◌++◌, All, map, max}
use Rattle.std.proofs.Common.{remove, slice_get, get_or, Option, Some, None, Ok, Err, refl, sym, ap, subst, arith}
use Rattle.std.proofs.lemmas.List.Elements.{All-nil, All-push, All-weaker}
use Rattle.std.proofs.lemmas.List.Sums.{sum_by-append, sum_by-cons, sum_by-remove}
use Rattle.std.proofs.lemmas.Option.{get_or_from_slice_get, slice_get_within}
use Rattle.std.specs.List.{count_by}
use Rattle.std.specs.Str.{bytes_eq}
use Rattle.bac_wire.specs.Stamp.{CivilTime}
use Rattle.bac_drive.specs.Chain.{Chain}
use Rattle.bac_ports.specs.Port.{Receiving}
use Rattle.bac_drive.specs.Event.{Event, Kept, Printed, Read, Sent, Waited, Warned}
use Rattle.bac_drive.specs.declared.machine.Next.{Next}
use Rattle.bac_drive.specs.declared.machine.Next.TheVariants as next
use Rattle.bac_device_poll.specs.Poll.{asked_of_device}
use Rattle.bac_device_poll.specs.declared.question.Question.{Question}
use Rattle.bac_device_poll.specs.declared.question.Question.TheVariants.{Confirmed, Nothing, WhoIs}
use Rattle.bac_device_poll.specs.declared.turn.DeviceEnd.{DeviceEnd}
use Rattle.bac_device_poller.specs.Poller.{AsksNext, PollerAs, TellsNext}
use Rattle.bac_device_poller.specs.Telling.{IsToldBy, LineAs}
use Rattle.bac_device_poller.specs.declared.doing.Doing.{Doing}
use Rattle.bac_device_poller.specs.declared.doing.Doing.TheVariants as doing
use Rattle.bac_site_poller.specs.News.{news_line}
use Rattle.bac_site_poller.specs.Seat.{Wants, lent, seat_heard, seat_read, sent_at}
use Rattle.bac_site_poller.specs.Site.{GivesFrom, GivesNews, GivesWaiting, SiteState, due_from, given, noted}
use Rattle.bac_site_poller.specs.Site.{is_asked_at, put_by, site_heard}
use Rattle.bac_site_poller.specs.SiteLaws.{AllHaveEnded, BeginsUnasked, HasEnded, IsNew, is_of, SiteSteps}
use Rattle.bac_site_poller.specs.declared.news.News.{News}
use Rattle.bac_site_poller.specs.declared.seat.Seat.{Seat}
use Rattle.bac_site_poller.proofs.Seated.{Stays, unasked_seated}
use Rattle.bac_site_poller.proofs.SeatedRun.{run as seated_run}
use Rattle.bac_site_poller.proofs.Strays.{sum_heeded}
use Rattle.bac_site_poller.proofs.Told.{ToldSite, told_site}
use Rattle.bac_site_poller.proofs.Within.{peer_heard, peer_read}
use Rattle.bac_site_poller.proofs.WithinRun.{peer_given}

abbrev tally : Bool → ℕ
tally b = cond b 1 0

-- how many are at an address, whatever they are at
abbrev count_all : List ℕ → SiteState → ℕ
count_all peer s = count_by (is_of peer) s.active + count_by (is_of peer) s.waiting + count_by (is_of peer) s.ended

-- ---- what it wants

one_more : (peer : List ℕ) (seats : List Seat) (seat : Seat) → count_by (is_of peer) (seats ++ seat ∷ []) ≡ count_by (is_of peer) seats + tally (is_of peer seat)
one_more peer seats seat = let f : Seat → ℕ = λ x. tally (is_of peer x) in omega (arith, sum_by-append f seats (seat ∷ []), sum_by-cons f seat [])

but_one : (peer : List ℕ) (seats : List Seat) (place : ℕ) (s : Seat) → slice_get seats place ≡ Some s → count_by (is_of peer) (remove seats place) + tally (is_of peer s) ≡ count_by (is_of peer) seats
but_one peer seats place s there =
    let f : Seat → ℕ = λ x. tally (is_of peer x) in
    let is : f (get_or seats place s) ≡ f s = ap f (get_or_from_slice_get seats place s s there) in
    omega (arith, is, sum_by-remove f seats place s (slice_get_within seats place s there))

put_all : (peer : List ℕ) (what : Doing) (s : SiteState) (seat : Seat) → count_all peer (put_by what s seat) ≡ count_all peer s + tally (is_of peer seat)
put_all peer doing.Asks s seat = omega (arith, one_more peer s.waiting (record seat { is_repeated = false; stray = None }))
put_all peer doing.Waits s seat = omega (arith, one_more peer s.active (record seat { due = due_from s }))
put_all peer (doing.Resends datagram) s seat = omega (arith, one_more peer s.active seat)
put_all peer (doing.Hears came) s seat = omega (arith, one_more peer s.active seat)
put_all peer doing.Loses s seat = omega (arith, one_more peer s.active seat)
put_all peer (doing.Tells end) s seat = omega (arith, one_more peer s.active seat)
put_all peer (doing.Ended why) s seat = omega (arith, one_more peer s.ended seat)

same_peer : (peer : List ℕ) (s t : Seat) → t.poller.way.peer ≡ s.poller.way.peer → tally (is_of peer t) ≡ tally (is_of peer s)
same_peer peer s t same = ap (λ (p : List ℕ). tally (bytes_eq p peer)) same

from_all : (peer : List ℕ) (old : SiteState) (s : Seat) (wanted : Next) (new : SiteState) → GivesFrom old s wanted new → count_all peer new ≡ count_all peer old + tally (is_of peer s)
from_all peer old s wanted new (p, gives, is) =
    let t : Seat = record s { poller = p } in
    let o : SiteState = record old { ids = p.rows.ids } in
    let e : count_all peer new ≡ count_all peer (put_by p.doing o t) = ap (count_all peer) is in
    omega (arith, e, put_all peer p.doing o t, same_peer peer s t (peer_given old.ids s.poller.doing s.poller p wanted gives))

waiting_all : (peer : List ℕ) (stale : Bool) (old : SiteState) (wanted : Next) (new : SiteState) → GivesWaiting stale old wanted new → count_all peer new ≡ count_all peer old
waiting_all peer true old wanted new (is_read, same) = ap (count_all peer) same
waiting_all peer false old wanted new (inl (place, s, there, asked, gives)) =
    omega (arith, from_all peer (record old { waiting = remove old.waiting place }) (sent_at old.time s) wanted new gives, but_one peer old.waiting place s there)
waiting_all peer false old wanted new (inr (none, rests, same)) = ap (count_all peer) same

news_all : (peer : List ℕ) (l : List News) (old : SiteState) (wanted : Next) (new : SiteState) → GivesNews l old wanted new → count_all peer new ≡ count_all peer old
news_all peer (news ∷ others) old wanted new (told, is) = ap (count_all peer) is
news_all peer [] old wanted new (inl (place, s, there, not, gives)) =
    omega (arith, from_all peer (noted (record old { active = remove old.active place }) s) s wanted new gives, but_one peer old.active place s there)
news_all peer [] old wanted new (inr (none, gives)) = waiting_all peer old.is_stale old wanted new gives

-- ---- what it makes of events

same_all : (f : Seat → Seat) → ((s : Seat) → (f s).poller.way.peer ≡ s.poller.way.peer) → (peer : List ℕ) (seats : List Seat) → count_by (is_of peer) (map f seats) ≡ count_by (is_of peer) seats
same_all f same peer [] = refl
same_all f same peer (s ∷ seats) =
    let rest = same_all f same peer seats in
    omega (arith, same_peer peer s (f s) (same s), rest, sum_by-cons (λ (x : Seat). tally (is_of peer x)) s seats, sum_by-cons (λ (x : Seat). tally (is_of peer x)) (f s) (map f seats))

heard_all : (peer : List ℕ) (now : CivilTime) (heard : Receiving) (s : SiteState) → count_all peer (site_heard now heard s) ≡ count_all peer s
heard_all peer now (Err fault) s = refl
heard_all peer now (Ok heard) s = ap (λ (n : ℕ). n + count_by (is_of peer) s.waiting + count_by (is_of peer) s.ended) (by heard.datagram)
  where
    by : (o : Option (List ℕ)) → count_by (is_of peer) (given (is_asked_at s heard.from) heard.from o now s.active) ≡ count_by (is_of peer) s.active
    by None = refl
    by (Some datagram) =
        let from = heard.from in
        sum_heeded (λ (x : Seat). tally (is_of peer x)) from datagram (λ x. refl) (is_asked_at s from) (map (seat_heard from datagram now) s.active)
        ∙ same_all (seat_heard from datagram now) (peer_heard from datagram now) peer s.active

told_all : (peer : List ℕ) (e : Event) (mid new : SiteState) → ToldSite mid e new → count_all peer new ≡ count_all peer mid
told_all peer (Waited within heard) mid new (now, moment, is) = ap (count_all peer) is ∙ heard_all peer now heard mid
told_all peer (Read ms) mid new is =
    ap (count_all peer) is
    ∙ ap (λ (n : ℕ). n + count_by (is_of peer) mid.waiting + count_by (is_of peer) mid.ended) (same_all (seat_read (max mid.time ms)) (peer_read (max mid.time ms)) peer mid.active)
told_all peer (Sent octets to answer) mid new is = ap (count_all peer) is
told_all peer (Kept puts) mid new is = ap (count_all peer) is
told_all peer (Printed text) mid new is = ap (count_all peer) is
told_all peer (Warned text) mid new is = ap (count_all peer) is

run_all : (peer : List ℕ) (es : List Event) (old new : SiteState) → Chain SiteSteps old es new → count_all peer new ≡ count_all peer old
run_all peer [] old new same = ap (λ (s : SiteState). count_all peer s) same
run_all peer (e ∷ es) old new (mid, (wanted, half, gives, does, is), more) =
    run_all peer es mid new more
    ∙ told_all peer e half mid (told_site half mid e is)
    ∙ news_all peer old.news old wanted half gives

-- ---- the end

-- a device alone doesn't want the site to end
reads_on : (wanted : Next) → wanted ≡ next.End → wanted ≡ next.Read → ⊥
reads_on wanted end read = absurd (let e : next.End ≡ next.Read = sym end ∙ read in cc)

asks_on : (k : Question) (p q : PollerAs) → AsksNext k p next.End q → ⊥
asks_on (Confirmed request) p q g = g
asks_on WhoIs p q g = g
asks_on Nothing p q g = g

good_on : (good : Bool) (text : List ℕ) → IsToldBy good text next.End → ⊥
good_on true text told = told
good_on false text told = told

tells_on : (lines : List LineAs) (end : Option DeviceEnd) (p q : PollerAs) → TellsNext lines end p next.End q → ⊥
tells_on (line ∷ lines) end p q g = good_on line.good line.text g.0
tells_on [] end p q g = reads_on next.End refl g.0

wants_on : (what : Doing) (p q : PollerAs) → Wants what p next.End q → ⊥
wants_on doing.Asks p q g = asks_on (asked_of_device p.poll) p q g
wants_on (doing.Resends datagram) p q g = g
wants_on doing.Waits p q g = reads_on next.End refl g.0
wants_on (doing.Hears came) p q g = g
wants_on doing.Loses p q g = g
wants_on (doing.Tells end) p q g = tells_on p.rows.lines end p q g
wants_on (doing.Ended why) p q g = reads_on next.End refl g.0

from_on : (old : SiteState) (s : Seat) (new : SiteState) → GivesFrom old s next.End new → ⊥
from_on old s new (p, gives, is) = wants_on s.poller.doing (lent old.ids s.poller) p gives

-- so none is asked then, and none waits
waiting_ends : (stale : Bool) (old new : SiteState) → GivesWaiting stale old next.End new → (old.active ≡ []) × (old.waiting ≡ []) × (new ≡ old)
waiting_ends true old new (is_read, same) = absurd (reads_on next.End refl is_read)
waiting_ends false old new (inl (place, s, there, asked, gives)) = absurd (from_on (record old { waiting = remove old.waiting place }) (sent_at old.time s) new gives)
waiting_ends false old new (inr (none, rests, same)) = (rests.0, rests.1, same)

news_ends : (l : List News) (old new : SiteState) → GivesNews l old next.End new → (old.active ≡ []) × (old.waiting ≡ []) × (new ≡ old)
news_ends (news ∷ others) old new (told, is) = absurd (good_on false (news_line news) told)
news_ends [] old new (inl (place, s, there, not, gives)) = absurd (from_on (noted (record old { active = remove old.active place }) s) s new gives)
news_ends [] old new (inr (none, gives)) = waiting_ends old.is_stale old new gives

ended_of : (s : Seat) → Stays s → HasEnded s
ended_of s stays = (stays.why, stays.ended)

pub all_have_ended : AllHaveEnded
all_have_ended = λ old last new es unasked chain gives.
    let start = old.waiting in
    let (active, waiting, stays) = news_ends last.news last new gives in
    let seated = seated_run start [] es old last (unasked_seated old unasked) chain in
    let E : SiteState → Type 0 = λ s. All (λ x. HasEnded x) s.ended in (
      ap (λ (s : SiteState). s.active) stays ∙ active,
      ap (λ (s : SiteState). s.waiting) stays ∙ waiting,
      subst E (sym stays) (All-weaker Stays (λ x. HasEnded x) ended_of last.ended seated.ended),
      λ peer.
          let all = run_all peer es old last chain in
          let ended : count_by (is_of peer) new.ended ≡ count_by (is_of peer) last.ended = ap (λ (s : SiteState). count_by (is_of peer) s.ended) stays in
          let none : count_by (is_of peer) last.active ≡ 0 = ap (λ (l : List Seat). count_by (is_of peer) l) active in
          let none' : count_by (is_of peer) last.waiting ≡ 0 = ap (λ (l : List Seat). count_by (is_of peer) l) waiting in
          let first : count_by (is_of peer) old.active ≡ 0 = ap (λ (l : List Seat). count_by (is_of peer) l) unasked.0 in
          let first' : count_by (is_of peer) old.ended ≡ 0 = ap (λ (l : List Seat). count_by (is_of peer) l) unasked.2 in
          omega (arith, all, ended, none, none', first, first'),
    )

-- ---- the beginning

pub begins_unasked : BeginsUnasked
begins_unasked = (
  λ limits begun ids. (refl, All-nil IsNew, refl),
  λ s seat unasked new. (unasked.0, All-push IsNew s.waiting seat unasked.1 new, unasked.2),
)
