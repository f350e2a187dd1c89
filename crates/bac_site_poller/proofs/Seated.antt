-- What holds of all devices of a site, behind events.
use Rattle.std.proofs.Common.{◌≡◌, ◌∙◌, ◌&&◌, inl, inr, ℕ, Bool, true, false, if◌then◌else◌, List, [], ◌∷◌, ◌++◌, All}
use Rattle.std.proofs.Common.{map, max, remove, get_or, Option, Some, None, Ok, Err, refl, sym, ap, subst}
use Rattle.std.specs.List.{Contains}
use Rattle.std.proofs.lemmas.Bool.{and_parts}
use Rattle.std.proofs.lemmas.List.Elements.{All-contains_itself, All-map, All-nil, All-push, All-weaker}
use Rattle.bac_wire.specs.Stamp.{CivilTime}
use Rattle.bac_ports.specs.Port.{Receiving}
use Rattle.bac_ports.specs.declared.port.Heard.{Heard}
use Rattle.bac_drive.specs.Event.{Event, Kept, Printed, Read, Sent, Waited, Warned}
use Rattle.bac_drive.specs.Happens.{Does}
use Rattle.bac_drive.specs.declared.machine.Next.{Next}
use Rattle.bac_device_poll.specs.declared.turn.DeviceEnd.{DeviceEnd}
use Rattle.bac_device_poller.specs.Poller.{PollerAs, heard_by, is_waiting, missed}
use Rattle.bac_device_poller.specs.declared.doing.Doing.{Doing}
use Rattle.bac_device_poller.specs.declared.doing.Doing.TheVariants as doing
use Rattle.bac_site_poller.specs.Asked.{IsOf, home_of}
use Rattle.bac_site_poller.specs.Seat.{is_due, lent, noticed, seat_heard, seat_read, sent_at}
use Rattle.bac_site_poller.specs.Site.{GivesFrom, GivesNews, GivesSite, GivesWaiting, SiteState, due_from, given, noted}
use Rattle.bac_site_poller.specs.Site.{is_asked_at, put_by, site_heard, site_read}
use Rattle.bac_site_poller.specs.SiteLaws.{IsUnasked}
use Rattle.bac_site_poller.specs.declared.news.News.{News}
use Rattle.bac_site_poller.specs.declared.seat.Seat.{Seat}
use Rattle.bac_site_poller.proofs.Marked.{IsMarkedAt, IsMarkedFor, heard_marked, lent_marked, missed_marked}
use Rattle.bac_site_poller.proofs.Marked.{wants_marked}
use Rattle.bac_site_poller.proofs.Places.{at_place, but_one}
use Rattle.bac_site_poller.proofs.Same.{home_heard, home_missed, home_wanted}
use Rattle.bac_site_poller.proofs.Sound.{IsClosed, IsSound, behind_send, heard_sound, later, lent_sound, missed_sound}
use Rattle.bac_site_poller.proofs.Sound.{sound_send, waiting_out, wants_sound}
use Rattle.bac_site_poller.proofs.Strays.{all_heeded}
use Rattle.bac_site_poller.proofs.Told.{ToldSite}

-- one device, where it is
pub record Sits (start : List Seat) (events : List Event) (s : Seat) : Type 0 where
  pub sound : IsSound events s.poller s.poller.doing
  pub marked : IsMarkedAt s.is_repeated s.poller s.poller.doing
  pub home : IsOf start s.poller

-- one that waits for its turn: nothing of it is open
pub record Queues (start : List Seat) (s : Seat) : Type 0 where
  pub asks : s.poller.doing ≡ doing.Asks
  pub closed : IsClosed s.poller
  pub fresh : s.is_repeated ≡ false
  pub home : IsOf start s.poller

-- one of which nothing more is asked
pub record Stays (s : Seat) : Type 0 where
  pub why : DeviceEnd
  pub ended : s.poller.doing ≡ doing.Ended why
  pub closed : IsClosed s.poller

-- all of a site
pub record Seated (start : List Seat) (events : List Event) (s : SiteState) : Type 0 where
  pub active : All (Sits start events) s.active
  pub waiting : All (Queues start) s.waiting
  pub ended : All Stays s.ended

-- ---- one device

pub sits_later : (start : List Seat) (events more : List Event) (s : Seat) → Sits start events s → Sits start (events ++ more) s
sits_later start events more s sits = record { sound = later events more s.poller s.poller.doing sits.sound; marked = sits.marked; home = sits.home }

all_later : (start : List Seat) (events more : List Event) (seats : List Seat) → All (Sits start events) seats → All (Sits start (events ++ more)) seats
all_later start events more seats all = All-weaker (Sits start events) (Sits start (events ++ more)) (sits_later start events more) seats all

seated_later : (start : List Seat) (events more : List Event) (s : SiteState) → Seated start events s → Seated start (events ++ more) s
seated_later start events more s seated = record { active = all_later start events more s.active seated.active; waiting = seated.waiting; ended = seated.ended }

-- one that waits is one that sits
pub sits_queued : (start : List Seat) (events : List Event) (s : Seat) → Queues start s → Sits start events s
sits_queued start events s queues =
    let D : Doing → Type 0 = λ x. IsSound events s.poller x in
    let M : Doing → Type 0 = λ x. IsMarkedAt s.is_repeated s.poller x in
    record { sound = subst D (sym queues.asks) queues.closed; marked = subst M (sym queues.asks) queues.fresh; home = queues.home }

-- nor does it matter when its question is sent
pub sits_sent : (start : List Seat) (events : List Event) (now : ℕ) (s : Seat) → Queues start s → Sits start events (sent_at now s)
sits_sent start events now s queues =
    sits_queued start events (sent_at now s) (record { asks = queues.asks; closed = queues.closed; fresh = queues.fresh; home = queues.home })

-- ---- what a site wants

seated_send : (start : List Seat) (events : List Event) (e : Event) (s : SiteState) → Seated start events s → Seated start (behind_send events e) s
seated_send start events (Sent octets to answer) s seated = seated_later start events (Sent octets to answer ∷ []) s seated
seated_send start events (Waited most heard) s seated = seated
seated_send start events (Read ms) s seated = seated
seated_send start events (Kept puts) s seated = seated
seated_send start events (Printed text) s seated = seated
seated_send start events (Warned text) s seated = seated

-- one device, before it goes where it belongs
record Comes (start : List Seat) (events : List Event) (s : Seat) : Type 0 where
  pub sound : IsSound events s.poller s.poller.doing
  pub marked : IsMarkedFor s.is_repeated s.poller s.poller.doing
  pub home : IsOf start s.poller

-- it sits among those that are asked
seats_more : (start : List Seat) (events : List Event) (s : SiteState) (seat : Seat) → Seated start events s → Sits start events seat → Seated start events (record s { active = s.active ++ seat ∷ [] })
seats_more start events s seat seated sits =
    record { active = All-push (Sits start events) s.active seat seated.active sits; waiting = seated.waiting; ended = seated.ended }

-- what it is at, by two equations
sits_at : (start : List Seat) (events : List Event) (what : Doing) (seat : Seat) → seat.poller.doing ≡ what → IsMarkedAt seat.is_repeated seat.poller what → Comes start events seat → Sits start events seat
sits_at start events what seat was marked comes =
    let M : Doing → Type 0 = λ x. IsMarkedAt seat.is_repeated seat.poller x in
    record { sound = comes.sound; marked = subst M (sym was) marked; home = comes.home }

marked_at : (start : List Seat) (events : List Event) (what : Doing) (seat : Seat) → seat.poller.doing ≡ what → Comes start events seat → IsMarkedFor seat.is_repeated seat.poller what
marked_at start events what seat was comes = let M : Doing → Type 0 = λ x. IsMarkedFor seat.is_repeated seat.poller x in subst M was comes.marked

sound_at : (start : List Seat) (events : List Event) (what : Doing) (seat : Seat) → seat.poller.doing ≡ what → Comes start events seat → IsSound events seat.poller what
sound_at start events what seat was comes = let D : Doing → Type 0 = λ x. IsSound events seat.poller x in subst D was comes.sound

put_seated : (start : List Seat) (events : List Event) (what : Doing) (s : SiteState) (seat : Seat) → seat.poller.doing ≡ what → Seated start events s → Comes start events seat → Seated start events (put_by what s seat)
put_seated start events doing.Asks s seat was seated comes = record {
  active = seated.active;
  waiting = All-push (Queues start) s.waiting (record seat { is_repeated = false; stray = None }) seated.waiting
      (record { asks = was; closed = sound_at start events doing.Asks seat was comes; fresh = refl; home = comes.home });
  ended = seated.ended;
}
put_seated start events doing.Waits s seat was seated comes =
    let sits = sits_at start events doing.Waits seat was (marked_at start events doing.Waits seat was comes) comes in
    seats_more start events s (record seat { due = due_from s }) seated (record { sound = sits.sound; marked = sits.marked; home = sits.home })
put_seated start events (doing.Resends datagram) s seat was seated comes =
    seats_more start events s seat seated (sits_at start events (doing.Resends datagram) seat was (marked_at start events (doing.Resends datagram) seat was comes) comes)
put_seated start events (doing.Hears came) s seat was seated comes = seats_more start events s seat seated (sits_at start events (doing.Hears came) seat was tt comes)
put_seated start events doing.Loses s seat was seated comes = seats_more start events s seat seated (sits_at start events doing.Loses seat was tt comes)
put_seated start events (doing.Tells end) s seat was seated comes = seats_more start events s seat seated (sits_at start events (doing.Tells end) seat was tt comes)
put_seated start events (doing.Ended why) s seat was seated comes = record {
  active = seated.active;
  waiting = seated.waiting;
  ended = All-push Stays s.ended seat seated.ended (record { why = why; ended = was; closed = sound_at start events (doing.Ended why) seat was comes });
}

-- it asks where it did
home_as : (start : List Seat) (p q : PollerAs) → home_of q ≡ home_of p → IsOf start p → IsOf start q
home_as start p q same (h, within, is) = (h, within, same ∙ is)

from_seated : (start : List Seat) (events : List Event) (e : Event) (old : SiteState) (s : Seat) (wanted : Next) (new : SiteState) → Seated start events old → Sits start events s →
    GivesFrom old s wanted new → Does wanted e → Seated start (behind_send events e) new
from_seated start events e old s wanted new seated sits (p, gives, is) does =
    let P : SiteState → Type 0 = λ x. Seated start (behind_send events e) x in
    let asked = lent old.ids s.poller in
    let what = s.poller.doing in
    let on : Comes start (behind_send events e) (record s { poller = p }) = record {
      sound = wants_sound events what asked p wanted e refl (lent_sound old.ids events s.poller what sits.sound) gives does;
      marked = wants_marked s.is_repeated what asked p wanted refl (lent_marked old.ids s.is_repeated s.poller what sits.marked) gives;
      home = home_as start s.poller p (home_wanted what asked p wanted gives) sits.home;
    } in
    let sent = seated_send start events e old seated in
    let before : Seated start (behind_send events e) (record old { ids = p.rows.ids }) = record { active = sent.active; waiting = sent.waiting; ended = sent.ended } in
    subst P (sym is) (put_seated start (behind_send events e) p.doing (record old { ids = p.rows.ids }) (record s { poller = p }) refl before on)

waiting_seated : (start : List Seat) (events : List Event) (e : Event) (stale : Bool) (old : SiteState) (wanted : Next) (new : SiteState) → Seated start events old → GivesWaiting stale old wanted new → Does wanted e →
    Seated start (behind_send events e) new
waiting_seated start events e true old wanted new seated (is_read, same) does =
    let P : SiteState → Type 0 = λ x. Seated start (behind_send events e) x in subst P (sym same) (seated_send start events e old seated)
waiting_seated start events e false old wanted new seated (inl (place, s, there, asked, gives)) does =
    let less : SiteState = record old { waiting = remove old.waiting place } in
    from_seated start events e less (sent_at old.time s) wanted new (record { active = seated.active; waiting = but_one (Queues start) old.waiting place seated.waiting; ended = seated.ended })
    (sits_sent start events old.time s (at_place (Queues start) old.waiting place s seated.waiting there)) gives does
waiting_seated start events e false old wanted new seated (inr (none, rests, same)) does =
    let P : SiteState → Type 0 = λ x. Seated start (behind_send events e) x in subst P (sym same) (seated_send start events e old seated)

news_seated : (start : List Seat) (events : List Event) (e : Event) (l : List News) (old : SiteState) (wanted : Next) (new : SiteState) → Seated start events old → GivesNews l old wanted new → Does wanted e →
    Seated start (behind_send events e) new
news_seated start events e (news ∷ others) old wanted new seated (told, is) does =
    let P : SiteState → Type 0 = λ x. Seated start (behind_send events e) x in
    let on = seated_send start events e old seated in
    subst P (sym is) (record { active = on.active; waiting = on.waiting; ended = on.ended })
news_seated start events e [] old wanted new seated (inl (place, s, there, not, gives)) does =
    let less : SiteState = noted (record old { active = remove old.active place }) s in
    from_seated start events e less s wanted new (record { active = but_one (Sits start events) old.active place seated.active; waiting = seated.waiting; ended = seated.ended })
    (at_place (Sits start events) old.active place s seated.active there) gives does
news_seated start events e [] old wanted new seated (inr (none, gives)) does = waiting_seated start events e old.is_stale old wanted new seated gives does

pub wants_seated : (start : List Seat) (events : List Event) (e : Event) (old : SiteState) (wanted : Next) (new : SiteState) → Seated start events old → GivesSite old wanted new → Does wanted e →
    Seated start (behind_send events e) new
wants_seated start events e old wanted new seated gives does = news_seated start events e old.news old wanted new seated gives does

-- ---- what it hears, and what time makes of it

sits_heard : (start : List Seat) (events : List Event) (within : ℕ) (heard : Heard) (datagram : List ℕ) (now : CivilTime) (s : Seat) → heard.datagram ≡ Some datagram → Sits start events s →
    Sits start (events ++ Waited within (Ok heard) ∷ []) (seat_heard heard.from datagram now s)
sits_heard start events within heard datagram now s is sits = record {
  sound = heard_sound events within heard datagram now s.poller is sits.sound;
  marked = heard_marked s.is_repeated heard.from datagram now s.poller sits.marked;
  home = home_as start s.poller (heard_by heard.from datagram now s.poller) (home_heard heard.from datagram now s.poller) sits.home;
}

-- what came from elsewhere changes nothing of it
sits_noticed : (start : List Seat) (events : List Event) (from datagram : List ℕ) (s : Seat) → Sits start events s → Sits start events (noticed from datagram s)
sits_noticed start events from datagram s sits = record { sound = sits.sound; marked = sits.marked; home = sits.home }

sits_read : (start : List Seat) (events : List Event) (now : ℕ) (s : Seat) → Sits start events s → Sits start events (seat_read now s)
sits_read start events now s sits = by (is_due now s) refl
  where
    by : (b : Bool) → is_due now s ≡ b → Sits start events (if b then record s { poller = missed s.poller; is_repeated = true } else s)
    by true due =
        let both = and_parts (is_waiting s.poller.doing) _ due in
        let out = waiting_out events s.poller s.poller.doing sits.sound both.0 in
        record {
          sound = missed_sound events s.poller out;
          marked = missed_marked events s.poller out;
          home = home_as start s.poller (missed s.poller) (home_missed s.poller) sits.home;
        }
    by false due = sits

heard_seated : (start : List Seat) (events : List Event) (within : ℕ) (now : CivilTime) (heard : Receiving) (s : SiteState) → Seated start events s → Seated start (events ++ Waited within heard ∷ []) (site_heard now heard s)
heard_seated start events within now (Err fault) s seated =
    let on = seated_later start events (Waited within (Err fault) ∷ []) s seated in record { active = on.active; waiting = on.waiting; ended = on.ended }
heard_seated start events within now (Ok heard) s seated = record {
  active = by heard.datagram refl;
  waiting = seated.waiting;
  ended = seated.ended;
}
  where
    by : (o : Option (List ℕ)) → heard.datagram ≡ o → All (Sits start (events ++ Waited within (Ok heard) ∷ [])) (given (is_asked_at s heard.from) heard.from o now s.active)
    by None is = all_later start events (Waited within (Ok heard) ∷ []) s.active seated.active
    by (Some datagram) is =
        let P : Seat → Type 0 = Sits start (events ++ Waited within (Ok heard) ∷ []) in
        all_heeded P heard.from datagram (λ x sits. sits_noticed start (events ++ Waited within (Ok heard) ∷ []) heard.from datagram x sits) (is_asked_at s heard.from) (map (seat_heard heard.from datagram now) s.active)
        (All-map P (seat_heard heard.from datagram now) s.active
        (All-weaker (Sits start events) (λ x. P (seat_heard heard.from datagram now x)) (λ x sits. sits_heard start events within heard datagram now x is sits) s.active seated.active))

read_seated : (start : List Seat) (events : List Event) (ms : ℕ) (s : SiteState) → Seated start events s → Seated start (events ++ Read ms ∷ []) (site_read ms s)
read_seated start events ms s seated =
    let now = max s.time ms in
    let P : Seat → Type 0 = Sits start events in
    record {
      active = all_later start events (Read ms ∷ []) (map (seat_read now) s.active)
          (All-map P (seat_read now) s.active (All-weaker P (λ x. P (seat_read now x)) (λ x sits. sits_read start events now x sits) s.active seated.active));
      waiting = seated.waiting;
      ended = seated.ended;
    }

pub told_seated : (start : List Seat) (events : List Event) (e : Event) (mid new : SiteState) → Seated start (behind_send events e) mid → ToldSite mid e new → Seated start (events ++ e ∷ []) new
told_seated start events (Waited within heard) mid new seated (now, moment, is) =
    let P : SiteState → Type 0 = λ x. Seated start (events ++ Waited within heard ∷ []) x in subst P (sym is) (heard_seated start events within now heard mid seated)
told_seated start events (Read ms) mid new seated is =
    let P : SiteState → Type 0 = λ x. Seated start (events ++ Read ms ∷ []) x in subst P (sym is) (read_seated start events ms mid seated)
told_seated start events (Sent octets to answer) mid new seated is =
    let P : SiteState → Type 0 = λ x. Seated start (events ++ Sent octets to answer ∷ []) x in subst P (sym is) seated
told_seated start events (Kept puts) mid new seated is =
    let P : SiteState → Type 0 = λ x. Seated start (events ++ Kept puts ∷ []) x in subst P (sym is) (seated_later start events (Kept puts ∷ []) mid seated)
told_seated start events (Printed text) mid new seated is =
    let P : SiteState → Type 0 = λ x. Seated start (events ++ Printed text ∷ []) x in subst P (sym is) (seated_later start events (Printed text ∷ []) mid seated)
told_seated start events (Warned text) mid new seated is =
    let P : SiteState → Type 0 = λ x. Seated start (events ++ Warned text ∷ []) x in subst P (sym is) (seated_later start events (Warned text ∷ []) mid seated)

-- ---- the beginning

pub unasked_seated : (s : SiteState) → IsUnasked s → Seated s.waiting [] s
unasked_seated s (none, new, untold) = record {
  active =
      let P : List Seat → Type 0 = λ l. All (Sits s.waiting []) l in subst P (sym none) (All-nil (Sits s.waiting []));
  waiting = λ k d below.
      let seat = get_or s.waiting k d in
      let (asks, closed, fresh) = new k d below in
      record { asks = asks; closed = closed; fresh = fresh; home = (seat, All-contains_itself s.waiting k d below, refl) };
  ended =
      let P : List Seat → Type 0 = λ l. All Stays l in subst P (sym untold) (All-nil Stays);
}
