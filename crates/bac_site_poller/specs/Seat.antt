-- One device of a site.
use Rattle.std.specs.Prelude.{◌≡◌, ℕ, ◌+◌, ◌-◌, ◌&&◌, min, nat_le, nat_lt, not, take, Bool, true, if◌then◌else◌}
use Rattle.std.specs.Prelude.{List, Some}
use Rattle.std.specs.List.{list_any}
use Rattle.std.specs.Str.{bytes_eq}
use Rattle.bac_wire.specs.Stamp.{CivilTime}
use Rattle.bac_link.specs.Transactions.{is_awaited}
use Rattle.bac_drive.specs.declared.machine.Next.{Next}
use Rattle.bac_drive.specs.declared.machine.Next.TheVariants as next
use Rattle.bac_device_poller.specs.Poller.{GivesBy, PollerAs, heard_by, is_waiting, missed}
use Rattle.bac_device_poller.specs.declared.doing.Doing.{Doing}
use Rattle.bac_device_poller.specs.declared.doing.Doing.TheVariants as doing
use Rattle.bac_device_poller.specs.declared.ids.Ids.{Ids}
use Rattle.bac_site_poller.specs.declared.seat.Seat.{Seat}

-- whether its question was sent no more than once
abbrev pub is_first : Seat → Bool
is_first s = not s.is_repeated

-- A request has a place among those in flight until it is answered, sent again, or so many milliseconds old: most
-- devices answer sooner, and one that doesn't keeps no other waiting for longer.
abbrev pub fresh_ms : ℕ
fresh_ms = 250

-- how old its question is, at a time
abbrev pub age : (now : ℕ) → Seat → ℕ
age now s = now - s.sent

-- whether its question is fresh, and has a place among those in flight
abbrev pub is_fresh : (now : ℕ) → Seat → Bool
is_fresh now s = is_first s && nat_lt (age now s) fresh_ms

-- whether its device is at the host of an address
abbrev pub is_at : List ℕ → Seat → Bool
is_at peer s = bytes_eq (take 4 s.poller.way.peer) (take 4 peer)

-- ---- what is heard

-- a datagram came from an address, at a moment: a poll whose open question it answers has it, any other is as it was
abbrev pub seat_heard : List ℕ → List ℕ → (now : CivilTime) → Seat → Seat
seat_heard from datagram now s = record s { poller = heard_by from datagram now s.poller }

-- whether a datagram would answer its open request, if it came from its device
abbrev pub is_stray : List ℕ → List ℕ → Seat → Bool
is_stray from datagram s =
    not (bytes_eq from s.poller.way.peer) && is_awaited s.poller.transactions.pending datagram

-- whether one of these devices is at an address
abbrev pub is_known : List ℕ → List Seat → Bool
is_known from seats = list_any (λ s. bytes_eq s.poller.way.peer from) seats

-- one came from that address
abbrev pub noticed : List ℕ → List ℕ → Seat → Seat
noticed from datagram s = record s { stray = if is_stray from datagram s then Some from else s.stray }

-- ---- what time makes of it

-- whether the send of one was waited for
abbrev pub is_due : ℕ → Seat → Bool
is_due now s = is_waiting s.poller.doing && nat_le s.due now

-- a seat, at a time
abbrev pub seat_read : ℕ → Seat → Seat
seat_read now s =
    if is_due now s
    then record s { poller = missed s.poller; is_repeated = true }
    else s

-- when it gives up its place among those in flight
abbrev pub fresh_until : (now : ℕ) → Seat → ℕ
fresh_until now s = now + (fresh_ms - age now s)

-- until when it is waited for: until its send is due; or, if places are wanted, until it gives up its own
abbrev pub until : (is_wanted : Bool) → (now : ℕ) → Seat → ℕ
until is_wanted now s = if is_wanted && is_fresh now s then min s.due (fresh_until now s) else s.due

-- ---- what it wants

-- its question is sent first, at a time
abbrev pub sent_at : ℕ → Seat → Seat
sent_at now s = record s { sent = now }

-- these ids are free for its new logs
abbrev pub lent : Ids → PollerAs → PollerAs
lent ids p = record p { rows = record p.rows { ids = ids } }

-- What the poll of a device wants, by what it is at. Of one that has ended nothing is wanted, and the clock is read: a
-- site ends only with all of its devices.
abbrev pub Wants : Doing → PollerAs → Next → PollerAs → Type 0
Wants (doing.Ended why) old wanted new = (wanted ≡ next.Read) × (new ≡ old)
Wants doing.Asks old wanted new = GivesBy doing.Asks old wanted new
Wants (doing.Resends datagram) old wanted new = GivesBy (doing.Resends datagram) old wanted new
Wants doing.Waits old wanted new = GivesBy doing.Waits old wanted new
Wants (doing.Hears came) old wanted new = GivesBy (doing.Hears came) old wanted new
Wants doing.Loses old wanted new = GivesBy doing.Loses old wanted new
Wants (doing.Tells end) old wanted new = GivesBy (doing.Tells end) old wanted new
