-- The polls of many devices over one port, as a machine. Read `GivesSite`, `SiteHears` and `site_read`.
use Rattle.std.specs.Prelude.{◌≡◌, ◌⊎◌, ℕ, ◌+◌, ◌-◌, ◌<◌, ◌≤◌, ◌&&◌, ◌||◌, nat_le, nat_lt, min, max, Bool, true, false}
use Rattle.std.specs.Prelude.{if◌then◌else◌}
use Rattle.std.specs.Prelude.{List, [], ◌∷◌, ◌++◌, All, length, map, remove, slice_get, count_by, Option, None, Some}
use Rattle.std.specs.Prelude.{Ok, Err}
use Rattle.bac_wire.specs.Stamp.{CivilTime}
use Rattle.bac_poll.specs.Poll.{half_of}
use Rattle.bac_ports.specs.Port.{Receiving}
use Rattle.bac_drive.specs.declared.machine.Next.{Next}
use Rattle.bac_drive.specs.declared.machine.Next.TheVariants as next
use Rattle.bac_device_poller.specs.Poller.{PollerAs, is_waiting}
use Rattle.bac_device_poller.specs.Telling.{IsToldBy}
use Rattle.bac_device_poller.specs.declared.doing.Doing.{Doing}
use Rattle.bac_device_poller.specs.declared.doing.Doing.TheVariants as doing
use Rattle.bac_device_poller.specs.declared.ids.Ids.{Ids}
use Rattle.bac_site_poller.specs.Hosts.{answered_at, host_at, is_answered, is_loss, least_of, limit_of}
use Rattle.bac_site_poller.specs.Hosts.{slowed_at, with_limit}
use Rattle.bac_site_poller.specs.Moment.{IsAfter}
use Rattle.bac_site_poller.specs.News.{news_line}
use Rattle.bac_site_poller.specs.Seat.{Wants, is_at, is_fresh, is_known, lent, noticed, seat_heard, seat_read, sent_at}
use Rattle.bac_site_poller.specs.Seat.{until}
use Rattle.bac_site_poller.specs.declared.hosts.Host.{Host}
use Rattle.bac_site_poller.specs.declared.limits.Limits.{Limits}
use Rattle.bac_site_poller.specs.declared.news.News.{News}
use Rattle.bac_site_poller.specs.declared.news.News.TheVariants.{Slow, Stray}
use Rattle.bac_site_poller.specs.declared.seat.Seat.{Seat}

-- What is known of a site that is polled.
pub record SiteState : Type 0 where
  pub limits : Limits
  pub begun : CivilTime  -- this machine's clock in UTC, as the other one told 0
  pub time : ℕ  -- milliseconds since then, as they were read last
  pub is_stale : Bool  -- whether time may have passed since
  pub ids : Ids  -- those that are free for new logs
  pub active : List Seat  -- devices whose question is open, or whose poll has more to say before the next one
  pub waiting : List Seat  -- those that wait for their turn
  pub ended : List Seat  -- those of which nothing more is asked
  pub hosts : List Host  -- where requests were lost
  pub news : List News  -- what is to be told beside the lines of devices

-- no devices
abbrev pub fresh_site : Limits → CivilTime → Ids → SiteState
fresh_site limits begun ids =
    record {
      limits = limits;
      begun = begun;
      time = 0;
      is_stale = true;
      ids = ids;
      active = [];
      waiting = [];
      ended = [];
      hosts = [];
      news = [];
    }

-- ---- what comes

-- whether a device of the site is at an address: one that is asked now, that waits for its turn, or that has ended
abbrev pub is_asked_at : SiteState → List ℕ → Bool
is_asked_at s from = is_known from s.active || (is_known from s.waiting || is_known from s.ended)

-- what came from an address where no device of the site is, is noticed of each whose open request it would answer
abbrev pub heeded : (known : Bool) → List ℕ → List ℕ → List Seat → List Seat
heeded known from datagram seats = if known then seats else map (noticed from datagram) seats

-- A datagram came, if it fits one: each poll whose open question it answers has it, and every other one is as it was.
abbrev pub given : (known : Bool) → List ℕ → Option (List ℕ) → (now : CivilTime) → List Seat → List Seat
given known from None now seats = seats
given known from (Some datagram) now seats = heeded known from datagram (map (seat_heard from datagram now) seats)

-- the same of what came while it waited
abbrev pub site_heard : (now : CivilTime) → Receiving → SiteState → SiteState
site_heard now (Err fault) s = record s { is_stale = true }
site_heard now (Ok heard) s =
    record s { is_stale = true; active = given (is_asked_at s heard.from) heard.from heard.datagram now s.active }

-- What came, at the moment as the clock was read last.
abbrev pub SiteHears : SiteState → Receiving → SiteState → Type 0
SiteHears old heard new = (now : CivilTime) × IsAfter old.begun old.time now × (new ≡ site_heard now heard old)

-- The clock tells a time, which doesn't go back: each send that was waited for has no answer.
abbrev pub site_read : ℕ → SiteState → SiteState
site_read ms s = record s {
  time = max s.time ms;
  is_stale = false;
  active = map (seat_read (max s.time ms)) s.active;
}

-- ---- limits

-- how many have a fresh question, which hold the places of those in flight
abbrev pub fresh_count : SiteState → ℕ
fresh_count s = count_by (is_fresh s.time) s.active

-- one more may be asked: too few have a fresh question, and too few have one at all
abbrev pub HasPlace : SiteState → Type 0
HasPlace s = (fresh_count s < s.limits.at_once) × (length s.active < s.limits.most)

-- whether devices wait for a place among those in flight
abbrev pub is_place_wanted : SiteState → Bool
is_place_wanted s = nat_lt 0 (length s.waiting) && nat_le s.limits.at_once (fresh_count s)

-- how many requests may be open at the host of an address
abbrev pub limit_at : SiteState → List ℕ → ℕ
limit_at s peer = limit_of s.limits.at_host (host_at peer s.hosts)

-- one more may be asked there
abbrev pub HasPlaceAt : SiteState → List ℕ → Type 0
HasPlaceAt s peer = count_by (is_at peer) s.active < limit_at s peer

-- the device of a seat may be asked
abbrev pub HasRoom : SiteState → Seat → Type 0
HasRoom s seat = HasPlace s × HasPlaceAt s seat.poller.way.peer

-- never more are open than may be: of those that are fresh, in all, and at one host
abbrev pub IsWithin : SiteState → Type 0
IsWithin s =
    (fresh_count s ≤ s.limits.at_once) × (length s.active ≤ s.limits.most)
    × ((peer : List ℕ) → count_by (is_at peer) s.active ≤ s.limits.at_host)

-- ---- slow hosts

-- whether others are asked at the host of an address, beside one whose question was lost
abbrev pub is_crowded : SiteState → List ℕ → Bool
is_crowded s peer = nat_lt 0 (count_by (is_at peer) s.active)

-- A question was lost there. If others are open beside it, half as many may be from now on. One that was alone says
-- nothing of how many its host can bear.
abbrev pub hosts_lost : SiteState → List ℕ → List Host
hosts_lost s peer =
    if is_crowded s peer
    then with_limit peer (half_of (limit_at s peer)) s.hosts
    else map (slowed_at peer (limit_at s peer)) s.hosts

-- it is told, if there never were so few
abbrev pub news_lost : SiteState → List ℕ → List News
news_lost s peer =
    if is_crowded s peer
    && nat_lt (half_of (limit_at s peer)) (least_of s.limits.at_host (host_at peer s.hosts))
    then Slow peer (half_of (limit_at s peer)) ∷ []
    else []

-- by what the poll of a device there is at
abbrev pub hosts_by : Doing → SiteState → List ℕ → List Host
hosts_by what s peer =
    if is_loss what
    then hosts_lost s peer
    else (if is_answered what then map (answered_at s.limits.at_host peer) s.hosts else s.hosts)

-- the same of what is told
abbrev pub news_by : Doing → SiteState → List ℕ → List News
news_by what s peer = if is_loss what then news_lost s peer else []

-- from where else an answer came
abbrev pub stray_news : List ℕ → Option (List ℕ) → List News
stray_news peer None = []
stray_news peer (Some from) = Stray peer from ∷ []

-- if no answer came to any send of its question
abbrev pub stray_by : Doing → Seat → List News
stray_by doing.Loses s = stray_news s.poller.way.peer s.stray
stray_by doing.Asks s = []
stray_by (doing.Resends datagram) s = []
stray_by doing.Waits s = []
stray_by (doing.Hears came) s = []
stray_by (doing.Tells end) s = []
stray_by (doing.Ended why) s = []

-- What a seat, which was asked, and isn't waiting any more, says of its host, and of what came from elsewhere.
abbrev pub noted : SiteState → Seat → SiteState
noted s seat = record s {
  hosts = hosts_by seat.poller.doing s seat.poller.way.peer;
  news = s.news ++ (news_by seat.poller.doing s seat.poller.way.peer ++ stray_by seat.poller.doing seat);
}

-- ---- where a seat goes

-- until when a send now is waited for
abbrev pub due_from : SiteState → ℕ
due_from s = min (s.time + s.limits.wait_ms) 18446744073709551615

-- A seat goes where it belongs, by what its poller is at: behind all that wait if it asks its next question, so that
-- each device is asked once before any is asked twice.
abbrev pub put_by : Doing → SiteState → Seat → SiteState
put_by doing.Asks s seat =
    record s { waiting = s.waiting ++ record seat { is_repeated = false; stray = None } ∷ [] }
put_by doing.Waits s seat = record s { active = s.active ++ record seat { due = due_from s } ∷ [] }
put_by (doing.Resends datagram) s seat = record s { active = s.active ++ seat ∷ [] }
put_by (doing.Hears came) s seat = record s { active = s.active ++ seat ∷ [] }
put_by doing.Loses s seat = record s { active = s.active ++ seat ∷ [] }
put_by (doing.Tells end) s seat = record s { active = s.active ++ seat ∷ [] }
put_by (doing.Ended why) s seat = record s { ended = s.ended ++ seat ∷ [] }

-- by what its own poller is at
abbrev pub put : SiteState → Seat → SiteState
put s seat = put_by seat.poller.doing s seat

-- Its poll says what is wanted, with the ids that are free, and it goes where it belongs.
abbrev pub GivesFrom : SiteState → Seat → Next → SiteState → Type 0
GivesFrom old s wanted new =
    (p : PollerAs) × Wants s.poller.doing (lent old.ids s.poller) wanted p
    × (new ≡ put (record old { ids = p.rows.ids }) (record s { poller = p }))

-- ---- whose turn it is

-- the one at a place isn't waiting
abbrev pub MayAct : List Seat → ℕ → Type 0
MayAct seats place = (s : Seat) × (slice_get seats place ≡ Some s) × (is_waiting s.poller.doing ≡ false)

-- all are waiting
abbrev pub NoneActs : List Seat → Type 0
NoneActs seats = (place : ℕ) → MayAct seats place → ⊥

-- the one at a place waits for its turn, and has room
abbrev pub MayAsk : SiteState → ℕ → Type 0
MayAsk s place = (seat : Seat) × (slice_get s.waiting place ≡ Some seat) × HasRoom s seat

-- and none before it has
abbrev pub IsNextAsked : SiteState → ℕ → Type 0
IsNextAsked s place = MayAsk s place × ((k : ℕ) → k < place → MayAsk s k → ⊥)

-- none of those that wait for their turn has room
abbrev pub NoneAsked : SiteState → Type 0
NoneAsked s = (place : ℕ) → MayAsk s place → ⊥

-- a time is the first until which one of them is waited for
abbrev pub IsNearest : (Seat → ℕ) → List Seat → ℕ → Type 0
IsNearest times seats due =
    All (λ s. due ≤ times s) seats
    × ((place : ℕ) × (s : Seat) × (slice_get seats place ≡ Some s) × (due ≡ times s))

-- ---- what it wants

-- one that was asked, and isn't waiting any more, says what it wants
abbrev pub IsActed : SiteState → Next → SiteState → Type 0
IsActed old wanted new =
    (place : ℕ) × (s : Seat) × (slice_get old.active place ≡ Some s) × (is_waiting s.poller.doing ≡ false)
    × GivesFrom (noted (record old { active = remove old.active place }) s) s wanted new

-- the first that waits for its turn and has room is asked, and its question is fresh from now on
abbrev pub IsAsked : SiteState → Next → SiteState → Type 0
IsAsked old wanted new =
    (place : ℕ) × (s : Seat) × (slice_get old.waiting place ≡ Some s) × IsNextAsked old place
    × GivesFrom (record old { waiting = remove old.waiting place }) (sent_at old.time s) wanted new

-- nothing is to be done before the next of those that are asked is due, or gives up a place that is wanted; or all have
-- ended
abbrev pub Rests : SiteState → Next → Type 0
Rests s (next.Wait within) =
    (due : ℕ) × IsNearest (until (is_place_wanted s) s.time) s.active due × (within ≡ min (due - s.time) 4294967295)
Rests s next.End = (s.active ≡ []) × (s.waiting ≡ [])
Rests s other = ⊥

-- what it wants while all that are asked are waited for: first the clock, if time may have passed
abbrev pub GivesWaiting : Bool → SiteState → Next → SiteState → Type 0
GivesWaiting true old wanted new = (wanted ≡ next.Read) × (new ≡ old)
GivesWaiting false old wanted new = IsAsked old wanted new ⊎ (NoneAsked old × Rests old wanted × (new ≡ old))

-- what it wants by what is to be told
abbrev pub GivesNews : List News → SiteState → Next → SiteState → Type 0
GivesNews (news ∷ others) old wanted new =
    IsToldBy false (news_line news) wanted × (new ≡ record old { news = others })
GivesNews [] old wanted new =
    IsActed old wanted new ⊎ (NoneActs old.active × GivesWaiting old.is_stale old wanted new)

-- What a site wants.
abbrev pub GivesSite : SiteState → Next → SiteState → Type 0
GivesSite old wanted new = GivesNews old.news old wanted new
