-- What was asked of a device, and what came of it, in the words of the events.
use Rattle.std.specs.Prelude.{true, false, ◌≡◌, ◌⊎◌, ◌&&◌, ◌||◌, is_some, ℕ, Bool, if◌then◌else◌}
use Rattle.std.specs.Prelude.{List, [], ◌++◌, Option, None, Some, Ok}
use Rattle.std.specs.List.{Contains}
use Rattle.std.specs.Str.{bytes_eq}
use Rattle.bac_apdu.specs.Npdu.{Place}
use Rattle.bac_archive.specs.declared.row.Put.{Put}
use Rattle.bac_link.specs.Datagrams.{answers_to}
use Rattle.bac_link.specs.Path.{towards}
use Rattle.bac_link.specs.Requests.{request_octets}
use Rattle.bac_ports.specs.Port.{Sending}
use Rattle.bac_ports.specs.declared.port.Heard.{Heard}
use Rattle.bac_drive.specs.Event.{Event, Sent, Waited}
use Rattle.bac_device_poll.specs.Logs.{after_end}
use Rattle.bac_device_poll.specs.Poll.{asked_of_device}
use Rattle.bac_device_poll.specs.Rejects.{reject_by}
use Rattle.bac_device_poll.specs.Turns.{Turned}
use Rattle.bac_device_poll.specs.Way.{i_am_by, who_is_octets}
use Rattle.bac_device_poll.specs.declared.question.Question.{Question}
use Rattle.bac_device_poll.specs.declared.question.Question.TheVariants.{Confirmed, Nothing, WhoIs}
use Rattle.bac_answers.specs.declared.way.Way.{Way}
use Rattle.bac_device_poller.specs.Poller.{ComesBy, PollerAs, Settles, lost_of, seeks}
use Rattle.bac_device_poller.specs.declared.doing.Came.{Came}
use Rattle.bac_site_poller.specs.declared.seat.Seat.{Seat}

-- ---- questions

-- a question as a datagram: a request by a transaction with this route and invoke ID, or a Who-Is to a place
abbrev pub octets_of : Question → (route : Option Place) → (invoke : ℕ) → (place : Option Place) → List ℕ
octets_of (Confirmed request) route invoke place = request_octets (towards route) invoke request
octets_of WhoIs route invoke place = who_is_octets place
octets_of Nothing route invoke place = []

-- the question that a poll asked last, by the transaction that it began last
abbrev pub question_of : PollerAs → List ℕ
question_of p = octets_of (asked_of_device p.poll) p.transactions.route p.transactions.invoke p.way.route

-- it was sent to its device
abbrev pub WasAsked : List Event → PollerAs → Type 0
WasAsked events p = (answer : Sending) × Contains events (Sent (question_of p) p.way.peer answer)

-- ---- answers

-- a datagram from an address is the device's answer: an I-Am from where it is asked answers a Who-Is, and what fits its
-- transaction a request, from the device's own address
abbrev pub is_told_by : PollerAs → (from : List ℕ) → List ℕ → Bool
is_told_by p from datagram =
    if seeks p
    then is_some (i_am_by p.way from datagram)
    else bytes_eq from p.way.peer && answers_to (question_of p) datagram

-- it answers its question, or is a rejection by the router that the device is behind
abbrev pub is_answered_by : PollerAs → (from : List ℕ) → List ℕ → Bool
is_answered_by p from datagram = is_told_by p from datagram || is_some (reject_by p.way from datagram)

-- this datagram came from this address, while it was waited for
abbrev pub DidCome : List Event → (from : List ℕ) → List ℕ → Type 0
DidCome events from datagram =
    (within : ℕ) × (heard : Heard) × Contains events (Waited within (Ok heard)) × (heard.from ≡ from)
    × (heard.datagram ≡ Some datagram)

-- it was asked, and then a datagram came that answers it
abbrev pub WasAnswered : List Event → PollerAs → (from : List ℕ) → List ℕ → Type 0
WasAnswered events p from datagram =
    (before behind : List Event) × (events ≡ before ++ behind) × WasAsked before p × DidCome behind from datagram
    × (is_answered_by p from datagram ≡ true)

-- ---- whose they are

-- where a device is asked, and the route that its requests have
pub record HomeAs : Type 0 where
  pub way : Way
  pub route : Option Place

-- that of a poll
abbrev pub home_of : PollerAs → HomeAs
home_of p = record { way = p.way; route = p.transactions.route }

-- a poll is that of one of these devices: it asks where that is asked, by the same route
abbrev pub IsOf : List Seat → PollerAs → Type 0
IsOf seats p = (s : Seat) × Contains seats s × (home_of p ≡ home_of s.poller)

-- ---- what is put

-- Puts are what the poll of a device makes of a datagram that came, and answers its question, or rejects it, which had
-- been sent to it before.
abbrev pub ArePutOfAnswer : List Event → PollerAs → List Put → PollerAs → Type 0
ArePutOfAnswer events p puts after =
    (came : Came) × WasAnswered events p came.from came.datagram
    × ((t : Turned) × ComesBy (reject_by p.way came.from came.datagram) p came t × Settles t p puts after)

-- or what it makes of none; or of the end of a log's poll, as the next one is begun
abbrev pub ArePutOfNone : PollerAs → List Put → PollerAs → Type 0
ArePutOfNone p puts after = Settles (lost_of p) p puts after ⊎ Settles (after_end p.poll) p puts after

-- These puts are such, of one of these devices.
abbrev pub AreCome : List Seat → List Event → List Put → Type 0
AreCome seats events puts =
    (p after : PollerAs) × IsOf seats p × (ArePutOfAnswer events p puts after ⊎ ArePutOfNone p puts after)
