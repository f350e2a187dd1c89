-- Each poll of a site goes on by its own steps alone.
use Rattle.std.proofs.Common.{◌≡◌, inl, inr, ℕ, Bool, true, false, if◌then◌else◌, List, [], ◌∷◌, ◌++◌, All, map, max}
use Rattle.std.proofs.Common.{◌&&◌, nat_le, remove, Option, Some, None, Ok, Err, refl, sym, subst}
use Rattle.std.specs.List.{Contains}
use Rattle.std.proofs.lemmas.List.Elements.{All-append, All-contains_itself, All-map, All-push, All-weaker}
use Rattle.std.proofs.lemmas.List.Elements.{Contains-append_left, Contains-append_right}
use Rattle.bac_drive.specs.Chain.{Chain}
use Rattle.bac_ports.specs.Port.{Receiving}
use Rattle.bac_drive.specs.Event.{Event, Kept, Printed, Read, Sent, Waited, Warned}
use Rattle.bac_drive.specs.declared.machine.Next.{Next}
use Rattle.bac_wire.specs.Stamp.{CivilTime}
use Rattle.bac_device_poller.specs.Poller.{PollerAs, is_answer, is_waiting, missed}
use Rattle.bac_device_poller.specs.declared.doing.Doing.{Doing}
use Rattle.bac_device_poller.specs.declared.doing.Doing.TheVariants as doing
use Rattle.bac_site_poller.specs.Seat.{noticed, seat_heard, seat_read, sent_at}
use Rattle.bac_site_poller.specs.Site.{GivesFrom, GivesNews, GivesSite, GivesWaiting, SiteState, due_from, given, noted}
use Rattle.bac_site_poller.specs.Site.{is_asked_at, put_by, site_heard, site_read}
use Rattle.bac_site_poller.specs.SiteLaws.{Answered, GoAlone, IsGoneOn, Missed, Own, OwnStep, Wanted, seats_of}
use Rattle.bac_site_poller.specs.SiteLaws.{SiteSteps}
use Rattle.bac_site_poller.specs.declared.news.News.{News}
use Rattle.bac_site_poller.specs.declared.seat.Seat.{Seat}
use Rattle.bac_site_poller.proofs.Places.{at_place, but_one}
use Rattle.bac_site_poller.proofs.Strays.{all_heeded}
use Rattle.bac_site_poller.proofs.Told.{ToldSite, told_site}
use Rattle.bac_site_poller.proofs.Within.{others_not_heeded}

-- all of a site have gone on by their own steps
record Gone (start : List Seat) (s : SiteState) : Type 0 where
  pub active : All (IsGoneOn start) s.active
  pub waiting : All (IsGoneOn start) s.waiting
  pub ended : All (IsGoneOn start) s.ended

-- ---- one poll

one_more : (a : PollerAs) (own : List Own) (b c : PollerAs) (step : Own) → Chain OwnStep a own b → OwnStep b step c → Chain OwnStep a (own ++ step ∷ []) c
one_more a [] b c step same is =
    let P : PollerAs → Type 0 = λ x. OwnStep x step c in (c, subst P same is, refl)
one_more a (e ∷ own) b c step (mid, first, chain) is = (mid, first, one_more mid own b c step chain is)

goes_on : (start : List Seat) (s t : Seat) (step : Own) → OwnStep s.poller step t.poller → IsGoneOn start s → IsGoneOn start t
goes_on start s t step is (h, within, own, chain) =
    (h, within, own ++ step ∷ [], one_more h.poller own s.poller t.poller step chain is)

-- the same poll at another seat
stays : (start : List Seat) (s t : Seat) → t.poller ≡ s.poller → IsGoneOn start s → IsGoneOn start t
stays start s t same (h, within, own, chain) =
    let P : PollerAs → Type 0 = λ d. Chain OwnStep h.poller own d in (h, within, own, subst P (sym same) chain)

-- ---- what it wants

active_more : (start : List Seat) (s : SiteState) (seat : Seat) → Gone start s → IsGoneOn start seat → Gone start (record s { active = s.active ++ seat ∷ [] })
active_more start s seat gone on = record { active = All-push (IsGoneOn start) s.active seat gone.active on; waiting = gone.waiting; ended = gone.ended }

put_gone : (start : List Seat) (what : Doing) (s : SiteState) (seat : Seat) → Gone start s → IsGoneOn start seat → Gone start (put_by what s seat)
put_gone start doing.Asks s seat gone on = record {
  active = gone.active;
  waiting = All-push (IsGoneOn start) s.waiting (record seat { is_repeated = false; stray = None }) gone.waiting (stays start seat (record seat { is_repeated = false; stray = None }) refl on);
  ended = gone.ended;
}
put_gone start doing.Waits s seat gone on = active_more start s (record seat { due = due_from s }) gone (stays start seat (record seat { due = due_from s }) refl on)
put_gone start (doing.Resends datagram) s seat gone on = active_more start s seat gone on
put_gone start (doing.Hears came) s seat gone on = active_more start s seat gone on
put_gone start doing.Loses s seat gone on = active_more start s seat gone on
put_gone start (doing.Tells end) s seat gone on = active_more start s seat gone on
put_gone start (doing.Ended why) s seat gone on =
    record { active = gone.active; waiting = gone.waiting; ended = All-push (IsGoneOn start) s.ended seat gone.ended on }

from_gone : (start : List Seat) (old : SiteState) (s : Seat) (wanted : Next) (new : SiteState) → Gone start old → IsGoneOn start s → GivesFrom old s wanted new → Gone start new
from_gone start old s wanted new gone on (p, gives, is) =
    let P : SiteState → Type 0 = λ x. Gone start x in
    let o : SiteState = record old { ids = p.rows.ids } in
    subst P (sym is) (put_gone start p.doing o (record s { poller = p }) (record { active = gone.active; waiting = gone.waiting; ended = gone.ended })
    (goes_on start s (record s { poller = p }) (Wanted old.ids wanted) gives on))

waiting_gone : (start : List Seat) (stale : Bool) (old : SiteState) (wanted : Next) (new : SiteState) → Gone start old → GivesWaiting stale old wanted new → Gone start new
waiting_gone start true old wanted new gone (is_read, same) = let P : SiteState → Type 0 = λ x. Gone start x in subst P (sym same) gone
waiting_gone start false old wanted new gone (inl (place, s, there, asked, gives)) =
    from_gone start (record old { waiting = remove old.waiting place }) (sent_at old.time s) wanted new
    (record { active = gone.active; waiting = but_one (IsGoneOn start) old.waiting place gone.waiting; ended = gone.ended })
    (at_place (IsGoneOn start) old.waiting place s gone.waiting there) gives
waiting_gone start false old wanted new gone (inr (none, rests, same)) = let P : SiteState → Type 0 = λ x. Gone start x in subst P (sym same) gone

news_gone : (start : List Seat) (l : List News) (old : SiteState) (wanted : Next) (new : SiteState) → Gone start old → GivesNews l old wanted new → Gone start new
news_gone start (news ∷ others) old wanted new gone (told, is) =
    let P : SiteState → Type 0 = λ x. Gone start x in
    subst P (sym is) (record { active = gone.active; waiting = gone.waiting; ended = gone.ended })
news_gone start [] old wanted new gone (inl (place, s, there, not, acts)) =
    from_gone start (noted (record old { active = remove old.active place }) s) s wanted new
    (record { active = but_one (IsGoneOn start) old.active place gone.active; waiting = gone.waiting; ended = gone.ended })
    (at_place (IsGoneOn start) old.active place s gone.active there) acts
news_gone start [] old wanted new gone (inr (none, gives)) = waiting_gone start old.is_stale old wanted new gone gives

wants_gone : (start : List Seat) (old : SiteState) (wanted : Next) (new : SiteState) → Gone start old → GivesSite old wanted new → Gone start new
wants_gone start old wanted new gone gives = news_gone start old.news old wanted new gone gives

-- ---- what it makes of events

seat_heard_gone : (start : List Seat) (from datagram : List ℕ) (now : CivilTime) (s : Seat) → IsGoneOn start s → IsGoneOn start (seat_heard from datagram now s)
seat_heard_gone start from datagram now s on = by (is_answer s.poller from datagram) refl
  where
    by : (b : Bool) → is_answer s.poller from datagram ≡ b → IsGoneOn start (seat_heard from datagram now s)
    by true fits = goes_on start s (seat_heard from datagram now s) (Answered from datagram now) (fits, refl) on
    by false fits =
        let P : Seat → Type 0 = λ x. IsGoneOn start x in subst P (sym ((others_not_heeded from datagram now s).0 fits)) on

seat_read_gone : (start : List Seat) (now : ℕ) (s : Seat) → IsGoneOn start s → IsGoneOn start (seat_read now s)
seat_read_gone start now s on = by (is_waiting s.poller.doing) refl
  where
    by : (w : Bool) → is_waiting s.poller.doing ≡ w →
        IsGoneOn start (if w && nat_le s.due now then record s { poller = missed s.poller; is_repeated = true } else s)
    by true waits = due (nat_le s.due now)
      where
        due : (b : Bool) → IsGoneOn start (if b then record s { poller = missed s.poller; is_repeated = true } else s)
        due true = goes_on start s (record s { poller = missed s.poller; is_repeated = true }) Missed (waits, refl) on
        due false = on
    by false waits = on

heard_gone : (start : List Seat) (now : CivilTime) (heard : Receiving) (s : SiteState) → Gone start s → Gone start (site_heard now heard s)
heard_gone start now (Err fault) s gone = record { active = gone.active; waiting = gone.waiting; ended = gone.ended }
heard_gone start now (Ok heard) s gone = record { active = by heard.datagram; waiting = gone.waiting; ended = gone.ended }
  where
    by : (o : Option (List ℕ)) → All (IsGoneOn start) (given (is_asked_at s heard.from) heard.from o now s.active)
    by None = gone.active
    by (Some datagram) =
        all_heeded (IsGoneOn start) heard.from datagram (λ x on. stays start x (noticed heard.from datagram x) refl on) (is_asked_at s heard.from) (map (seat_heard heard.from datagram now) s.active)
        (All-map (IsGoneOn start) (seat_heard heard.from datagram now) s.active
        (All-weaker (IsGoneOn start) (λ x. IsGoneOn start (seat_heard heard.from datagram now x)) (λ x on. seat_heard_gone start heard.from datagram now x on) s.active gone.active))

read_gone : (start : List Seat) (ms : ℕ) (s : SiteState) → Gone start s → Gone start (site_read ms s)
read_gone start ms s gone =
    let now = max s.time ms in
    record {
      active = All-map (IsGoneOn start) (seat_read now) s.active
          (All-weaker (IsGoneOn start) (λ x. IsGoneOn start (seat_read now x)) (λ x on. seat_read_gone start now x on) s.active gone.active);
      waiting = gone.waiting;
      ended = gone.ended;
    }

told_gone : (start : List Seat) (e : Event) (mid new : SiteState) → Gone start mid → ToldSite mid e new → Gone start new
told_gone start (Waited within heard) mid new gone (now, moment, is) = let P : SiteState → Type 0 = λ x. Gone start x in subst P (sym is) (heard_gone start now heard mid gone)
told_gone start (Read ms) mid new gone is = let P : SiteState → Type 0 = λ x. Gone start x in subst P (sym is) (read_gone start ms mid gone)
told_gone start (Sent octets to answer) mid new gone is = let P : SiteState → Type 0 = λ x. Gone start x in subst P (sym is) gone
told_gone start (Kept puts) mid new gone is = let P : SiteState → Type 0 = λ x. Gone start x in subst P (sym is) gone
told_gone start (Printed text) mid new gone is = let P : SiteState → Type 0 = λ x. Gone start x in subst P (sym is) gone
told_gone start (Warned text) mid new gone is = let P : SiteState → Type 0 = λ x. Gone start x in subst P (sym is) gone

run : (start : List Seat) (es : List Event) (old new : SiteState) → Gone start old → Chain SiteSteps old es new → Gone start new
run start [] old new gone same =
    let Q : SiteState → Type 0 = λ s. Gone start s in subst Q (sym same) gone
run start (e ∷ es) old new gone (mid, (wanted, half, gives, does, is), more) =
    let one = told_gone start e half mid (wants_gone start old wanted half gone gives) (told_site half mid e is) in
    run start es mid new one more

-- each is among those that the site has at the beginning
each_is : (start seats : List Seat) → All (Contains start) seats → All (IsGoneOn start) seats
each_is start seats all = All-weaker (Contains start) (IsGoneOn start) (λ s within. (s, within, [], refl)) seats all

begins : (s : SiteState) → Gone (seats_of s) s
begins s = record {
  active = each_is (seats_of s) s.active (All-weaker (Contains s.active) (Contains (seats_of s)) (λ x within. Contains-append_left s.active (s.waiting ++ s.ended) x within) s.active (All-contains_itself s.active));
  waiting = each_is (seats_of s) s.waiting
      (All-weaker (Contains s.waiting) (Contains (seats_of s)) (λ x within. Contains-append_right s.active (s.waiting ++ s.ended) x (Contains-append_left s.waiting s.ended x within)) s.waiting (All-contains_itself s.waiting));
  ended = each_is (seats_of s) s.ended
      (All-weaker (Contains s.ended) (Contains (seats_of s)) (λ x within. Contains-append_right s.active (s.waiting ++ s.ended) x (Contains-append_right s.waiting s.ended x within)) s.ended (All-contains_itself s.ended));
}

pub go_alone : GoAlone
go_alone = λ old new es chain.
    let start = seats_of old in
    let gone = run start es old new (begins old) chain in
    let P : Seat → Type 0 = IsGoneOn start in
    All-append P new.active (new.waiting ++ new.ended) gone.active
    (All-append P new.waiting new.ended gone.waiting gone.ended)
