-- What a site makes of what comes and of time, whoever answers.
use Rattle.std.specs.Prelude.{true, false, ◌≡◌, ◌⊎◌, ◌≤◌, ◌&&◌, ◌||◌, ◌==◌, nat_lt, max, is_some, ℕ, Bool}
use Rattle.std.specs.Prelude.{if◌then◌else◌, List, remove, length, slice_get, [], ◌∷◌, ◌++◌, count_by, Option, None}
use Rattle.std.specs.Prelude.{Some, Ok}
use Rattle.std.specs.List.{All, Contains}
use Rattle.std.specs.Str.{bytes_eq}
use Rattle.bac_wire.specs.Stamp.{CivilTime}
use Rattle.bac_archive.specs.declared.row.Put.{Put}
use Rattle.bac_drive.specs.Chain.{Chain}
use Rattle.bac_drive.specs.Event.{Event, Kept, Printed, Read, Sent, Waited, Warned}
use Rattle.bac_drive.specs.Happens.{Acts, Steps, acting}
use Rattle.bac_drive.specs.declared.machine.Next.{Next}
use Rattle.bac_drive.specs.declared.machine.Next.TheVariants as next
use Rattle.bac_batch.specs.Batch.{Batched, GivesBatched, HearsBatched, ReadsBatched}
use Rattle.bac_batch.specs.Laws.{BatchedSteps, HoldsNothing, Inside, joined}
use Rattle.bac_link.specs.declared.transactions.Pending.{Pending}
use Rattle.bac_ports.specs.Port.{Receiving, Sending}
use Rattle.bac_ports.specs.declared.port.Heard.{Heard}
use Rattle.bac_poll.specs.Turns.{Turned as LogTurned}
use Rattle.bac_device_poll.specs.Logs.{after_end}
use Rattle.bac_device_poll.specs.declared.turn.DeviceEnd.{DeviceEnd}
use Rattle.bac_device_poller.specs.Poller.{PollerAs, heard_by, is_answer, is_waiting, lost_of, missed, seeks}
use Rattle.bac_device_poller.specs.declared.doing.Doing.{Doing}
use Rattle.bac_device_poller.specs.declared.doing.Doing.TheVariants as doing
use Rattle.bac_device_poller.specs.declared.ids.Ids.{Ids}
use Rattle.bac_site_poller.specs.Asked.{AreCome, IsOf, question_of}
use Rattle.bac_site_poller.specs.Seat.{Wants, age, fresh_ms, is_at, is_stray, lent, noticed, seat_heard}
use Rattle.bac_site_poller.specs.Site.{GivesSite, IsNextAsked, IsWithin, SiteHears, SiteState, fresh_site}
use Rattle.bac_site_poller.specs.Site.{is_asked_at, is_place_wanted, limit_at, site_heard, site_read}
use Rattle.bac_site_poller.specs.declared.limits.Limits.{Limits}
use Rattle.bac_site_poller.specs.declared.seat.Seat.{Seat}

-- what a site makes of what the clock tells
abbrev pub SiteReads : SiteState → ℕ → SiteState → Type 0
SiteReads old ms new = new ≡ site_read ms old

-- one event of a site: it says what is to be done, the event is that, and it is told what came of it
abbrev pub SiteSteps : SiteState → Event → SiteState → Type 0
SiteSteps = Steps GivesSite SiteHears SiteReads

-- one event of a site whose rows are put in batches
abbrev pub SiteBatchSteps : Batched SiteState → Event → Batched SiteState → Type 0
SiteBatchSteps = BatchedSteps GivesSite SiteHears SiteReads

-- what such a site says and makes of what it is told, over such a port and clock
abbrev pub site_acts : {P C : Type 0} → (P → List ℕ → List ℕ → Sending → P → Type 0) →
    (P → ℕ → Receiving → P → Type 0) → (C → ℕ → C → Type 0) → Acts (Batched SiteState) P C
site_acts sends receives tells =
    acting (λ old given new. GivesBatched GivesSite old given new)
    (λ old heard new. HearsBatched SiteHears old heard new)
    (λ old ms new. ReadsBatched SiteReads old ms new) sends receives tells

-- ---- limits

-- A datagram changes nothing for a device that it isn't an answer of, but that it may be noticed.
abbrev pub OthersNotHeeded : Type 0
OthersNotHeeded = (from datagram : List ℕ) (now : CivilTime) (s : Seat) →
    (is_answer s.poller from datagram ≡ false → seat_heard from datagram now s ≡ s)
    × (noticed from datagram s ≡ record s { stray = (noticed from datagram s).stray })

-- What came would answer the open request of a device, but for where it came from, and no device of the site is there.
abbrev pub MayBeStray : SiteState → Heard → Seat → Type 0
MayBeStray s heard seat =
    (datagram : List ℕ) × (heard.datagram ≡ Some datagram) × (is_stray heard.from datagram seat ≡ true)
    × (is_asked_at s heard.from ≡ false)

-- Only where so it is, it is noticed of a device from where else an answer came.
abbrev pub StraysMayBe : Type 0
StraysMayBe = (s : SiteState) (now : CivilTime) (heard : Heard) (place : ℕ) (old new : Seat) →
    slice_get s.active place ≡ Some old → slice_get (site_heard now (Ok heard) s).active place ≡ Some new →
    (new.stray ≡ old.stray) ⊎ ((new.stray ≡ Some heard.from) × MayBeStray s heard old)

-- What comes, and time, leave no more open than may be.
abbrev pub StaysWithin : Type 0
StaysWithin = (s : SiteState) → IsWithin s →
    ((now : CivilTime) (heard : Receiving) → IsWithin (site_heard now heard s))
    × ((ms : ℕ) → IsWithin (site_read ms s))

-- What a site wants leaves no more open than may be.
abbrev pub WantsWithin : Type 0
WantsWithin = (old new : SiteState) (wanted : Next) → IsWithin old → GivesSite old wanted new → IsWithin new

-- Never more are open than may be, in all and at one IP address: behind each front of what happens.
abbrev pub WithinLimits : Type 0
WithinLimits =
    (old new : SiteState) (es : List Event) → IsWithin old → Chain SiteSteps old es new →
    IsWithin new

-- Whatever happens, more are asked at an IP address only where fewer are than the limit that holds there then.
abbrev pub KeepsToLimits : Type 0
KeepsToLimits =
    (old new : SiteState) (e : Event) (peer : List ℕ) → SiteSteps old e new →
    count_by (is_at peer) new.active
    ≤ max (count_by (is_at peer) old.active) (limit_at old peer)

-- While devices wait for a place among those in flight, a site waits for no longer than a request has one: no silent
-- device keeps another waiting for longer.
abbrev pub PlacesComeFree : Type 0
PlacesComeFree =
    (old new : SiteState) (within : ℕ) → GivesSite old (next.Wait within) new → is_place_wanted old ≡ true →
    within ≤ fresh_ms

-- ---- each for itself

-- all devices of a site
abbrev pub seats_of : SiteState → List Seat
seats_of s = s.active ++ (s.waiting ++ s.ended)

-- what happens to the poll of a device: it says what it wants, and these ids are free for its new logs; an answer comes
-- from an address, at a moment; or none came in time
pub data Own : Type 0 where
  Wanted : Ids → Next → Own
  Answered : List ℕ → List ℕ → CivilTime → Own
  Missed : Own

-- what that makes of it: nothing but the poll itself is looked at
abbrev pub OwnStep : PollerAs → Own → PollerAs → Type 0
OwnStep p (Wanted ids wanted) q = Wants p.doing (lent ids p) wanted q
OwnStep p (Answered from datagram now) q =
    (is_answer p from datagram ≡ true) × (q ≡ heard_by from datagram now p)
OwnStep p Missed q = (is_waiting p.doing ≡ true) × (q ≡ missed p)

-- the poll of a device is what such steps made of that of one of these
abbrev pub IsGoneOn : List Seat → Seat → Type 0
IsGoneOn seats s =
    (h : Seat) × Contains seats h × (own : List Own) × Chain OwnStep h.poller own s.poller

-- Each device's poll is what its own steps made of it, whatever other devices answer or don't.
abbrev pub GoAlone : Type 0
GoAlone =
    (old new : SiteState) (es : List Event) → Chain SiteSteps old es new →
    All (IsGoneOn (seats_of old)) (seats_of new)

-- ---- turns

-- those that wait keep their order: one is asked, of those that have room the first, and may wait again, behind the
-- others; one comes, behind the others; or none
abbrev pub IsInTurn : SiteState → SiteState → Type 0
IsInTurn old new =
    ((place : ℕ) × IsNextAsked old place
    × ((new.waiting ≡ remove old.waiting place)
    ⊎ ((s : Seat) × (new.waiting ≡ remove old.waiting place ++ s ∷ []))))
    ⊎ (((s : Seat) × (new.waiting ≡ old.waiting ++ s ∷ [])) ⊎ (new.waiting ≡ old.waiting))

-- Whatever a site wants, it is in turn.
abbrev pub AskInTurn : Type 0
AskInTurn = (old new : SiteState) (wanted : Next) → GivesSite old wanted new → IsInTurn old new

-- ---- what is open

-- its question was sent, and no answer came yet: it is waited for, or sent again
abbrev pub is_out : Doing → Bool
is_out doing.Waits = true
is_out (doing.Resends datagram) = true
is_out doing.Asks = false
is_out (doing.Hears came) = false
is_out doing.Loses = false
is_out (doing.Tells end) = false
is_out (doing.Ended why) = false

-- a device with an open request, or an open Who-Is
abbrev pub is_open : Seat → Bool
is_open s = is_some s.poller.transactions.pending || (seeks s.poller && is_out s.poller.doing)

-- one at the host of an address
abbrev pub is_open_at : List ℕ → Seat → Bool
is_open_at peer s = is_open s && is_at peer s

-- how often an open request was sent again
abbrev pub repeats_of : Option Pending → ℕ
repeats_of None = 0
repeats_of (Some request) = request.repeats

-- how often the open question of a device was
abbrev pub again_of : PollerAs → ℕ
again_of p = if seeks p then p.sought else repeats_of p.transactions.pending

-- a device whose open question was sent once
abbrev pub is_open_once : Seat → Bool
is_open_once s = is_open s && again_of s.poller == 0

-- one whose open question was sent once, and is fresh at a time
abbrev pub is_open_fresh : (now : ℕ) → Seat → Bool
is_open_fresh now s = is_open_once s && nat_lt (age now s) fresh_ms

-- the mark of a seat tells whether its open question was sent more than once
abbrev pub IsMarked : Seat → Type 0
IsMarked s = is_open s ≡ true → s.is_repeated ≡ nat_lt 0 (again_of s.poller)

-- its question is to be sent, and nothing is open
abbrev pub IsNew : Seat → Type 0
IsNew s = (s.poller.doing ≡ doing.Asks) × (s.poller.transactions.pending ≡ None) × (s.is_repeated ≡ false)

-- a site at its beginning: each device waits for its turn, and has nothing open
abbrev pub IsUnasked : SiteState → Type 0
IsUnasked s = (s.active ≡ []) × All (λ seat. IsNew seat) s.waiting × (s.ended ≡ [])

-- Each open question that was sent again is marked so, and no other: it has given up its place among those in flight.
abbrev pub RepeatsAreMarked : Type 0
RepeatsAreMarked =
    (old new : SiteState) (es : List Event) → IsUnasked old → Chain SiteSteps old es new →
    All IsMarked new.active

-- No more questions are open than the limits say, which stay as they are: of those that were sent once and are fresh as
-- the clock was read last, in all, and at one IP address.
abbrev pub IsOpenWithin : SiteState → SiteState → Type 0
IsOpenWithin old new =
    let limits = old.limits in
    (new.limits ≡ limits) × (count_by (is_open_fresh new.time) (seats_of new) ≤ limits.at_once)
    × (count_by is_open (seats_of new) ≤ limits.most)
    × ((peer : List ℕ) → count_by (is_open_at peer) (seats_of new) ≤ limits.at_host)

-- So it is whatever happens.
abbrev pub OpenWithin : Type 0
OpenWithin =
    (old new : SiteState) (es : List Event) → IsUnasked old → Chain SiteSteps old es new → IsOpenWithin old new

-- the clock as it was read last, behind events
abbrev pub clock_behind : (time : ℕ) → List Event → ℕ
clock_behind time [] = time
clock_behind time (Read ms ∷ es) = clock_behind (max time ms) es
clock_behind time (Sent octets to answer ∷ es) = clock_behind time es
clock_behind time (Waited within heard ∷ es) = clock_behind time es
clock_behind time (Kept puts ∷ es) = clock_behind time es
clock_behind time (Printed text ∷ es) = clock_behind time es
clock_behind time (Warned text ∷ es) = clock_behind time es

-- the question of a poll was sent to its device as the clock told this
abbrev pub WasSentAt : (time : ℕ) → List Event → (sent : ℕ) → PollerAs → Type 0
WasSentAt time es sent p =
    (front behind : List Event) × (answer : Sending)
    × (es ≡ front ++ Sent (question_of p) p.way.peer answer ∷ behind) × (sent ≡ clock_behind time front)

-- Each open question was sent as the clock told what stands at its device: by that its age is told.
abbrev pub SendsAreDated : Type 0
SendsAreDated =
    (old new : SiteState) (es : List Event) → IsUnasked old → Chain SiteSteps old es new →
    All (λ s. is_open s ≡ true → WasSentAt old.time es s.sent s.poller) new.active

-- ---- what is sent, and put

-- What is sent is the question of the poll of a device, to that device.
abbrev pub SiteSendsAsk : Type 0
SiteSendsAsk =
    (old new : SiteState) (front behind : List Event) (octets to : List ℕ) (answer : Sending) →
    IsUnasked old → Chain SiteSteps old (front ++ Sent octets to answer ∷ behind) new →
    (one : PollerAs) × IsOf old.waiting one × (to ≡ one.way.peer) × (octets ≡ question_of one)

-- What is put is what the poll of a device makes of an answer that came to its question, or of none.
abbrev pub SiteRowsCame : Type 0
SiteRowsCame =
    (old new : SiteState) (front behind : List Event) (puts : List Put) → IsUnasked old →
    Chain SiteSteps old (front ++ Kept puts ∷ behind) new → AreCome old.waiting front puts

-- a turn of the log that is polled, if there is one, brings no record, no gap and no epoch
abbrev pub BringsNone : Option LogTurned → Type 0
BringsNone None = Unit {0}
BringsNone (Some t) = (t.begins ≡ None) × (t.missing ≡ []) × (t.anew ≡ false) × (t.gap ≡ []) × (t.records ≡ [])

-- So is what no answer makes of a device's poll, and what the end of a log's poll does.
abbrev pub LossesBringNone : Type 0
LossesBringNone = (p : PollerAs) → BringsNone (lost_of p).log × BringsNone (after_end p.poll).log

-- ---- the beginning, and the end

-- So is a site without devices, and one with a new device more.
abbrev pub BeginsUnasked : Type 0
BeginsUnasked =
    ((limits : Limits) (begun : CivilTime) (ids : Ids) → IsUnasked (fresh_site limits begun ids))
    × ((s : SiteState) (seat : Seat) → IsUnasked s → IsNew seat →
    IsUnasked (record s { waiting = s.waiting ++ seat ∷ [] }))

-- whether a device is at an address
abbrev pub is_of : List ℕ → Seat → Bool
is_of peer s = bytes_eq s.poller.way.peer peer

-- nothing more is asked of a device
abbrev pub HasEnded : Seat → Type 0
HasEnded s = (why : DeviceEnd) × (s.poller.doing ≡ doing.Ended why)

-- no device is left out: each has ended
abbrev pub HaveEnded : SiteState → SiteState → Type 0
HaveEnded old new =
    (new.active ≡ []) × (new.waiting ≡ []) × All (λ s. HasEnded s) new.ended
    × ((peer : List ℕ) → count_by (is_of peer) new.ended ≡ count_by (is_of peer) old.waiting)

-- When a site has ended, so have all of its devices.
abbrev pub AllHaveEnded : Type 0
AllHaveEnded =
    (old last new : SiteState) (es : List Event) → IsUnasked old → Chain SiteSteps old es last →
    GivesSite last next.End new → HaveEnded old new

-- ---- batches

-- Of a site whose rows are put in batches: what is put in one transaction is the rows of at most 64 replies, in order,
-- each of which is what the poll of a device makes of an answer that came to its question, or of none.
abbrev pub BatchesCome : Type 0
BatchesCome =
    (old new : Batched SiteState) (front behind : List Event) (puts : List Put) → HoldsNothing old →
    IsUnasked old.machine → Chain SiteBatchSteps old (front ++ Kept puts ∷ behind) new →
    (replies : List (List Put)) × (puts ≡ joined replies) × (length replies ≤ 64)
    × All (AreCome old.machine.waiting front) replies

-- The site inside makes such events that nothing is lost or made up by the batches, and never more of its questions are
-- open than the limits say.
abbrev pub BatchesWithin : Type 0
BatchesWithin =
    (old new : Batched SiteState) (es : List Event) → HoldsNothing old → IsUnasked old.machine →
    Chain SiteBatchSteps old es new →
    (inner : List Event) × (last : SiteState) × Inside GivesSite SiteSteps old.machine es new inner last
    × IsOpenWithin old.machine last

-- When it has ended, so have all of its devices.
abbrev pub BatchesEnd : Type 0
BatchesEnd =
    (old last new : Batched SiteState) (es : List Event) → HoldsNothing old → IsUnasked old.machine →
    Chain SiteBatchSteps old es last → GivesBatched GivesSite last next.End new →
    HaveEnded old.machine new.machine
