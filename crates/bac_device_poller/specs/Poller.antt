-- The poll of one device over transactions. Read `GivesBy`, `heard_by` and `missed`.
use Rattle.std.specs.Prelude.{◌≡◌, ℕ, ◌+◌, ◌&&◌, ◌||◌, nat_le, nat_lt, is_some, Bool, true, false, if◌then◌else◌}
use Rattle.std.specs.Prelude.{List, [], ◌∷◌, map, Option, None, Some}
use Rattle.std.specs.Str.{bytes_eq}
use Rattle.bac_wire.specs.Stamp.{CivilTime}
use Rattle.bac_archive.specs.declared.row.Put.{Put}
use Rattle.bac_link.specs.Path.{towards}
use Rattle.bac_link.specs.Requests.{next_invoke, request_octets}
use Rattle.bac_link.specs.Transactions.{begun_with, closed, is_awaited}
use Rattle.bac_link.specs.declared.transactions.Pending.{Pending}
use Rattle.bac_link.specs.declared.transactions.Transactions.{Transactions}
use Rattle.bac_drive.specs.declared.machine.Next.{Next}
use Rattle.bac_drive.specs.declared.machine.Next.TheVariants as next
use Rattle.bac_device_poll.specs.Identity.{after_i_am}
use Rattle.bac_device_poll.specs.Logs.{after_end}
use Rattle.bac_device_poll.specs.Loss.{after_loss}
use Rattle.bac_device_poll.specs.Poll.{Takes, asked_of_device}
use Rattle.bac_device_poll.specs.Rejects.{after_reject, reject_by}
use Rattle.bac_device_poll.specs.State.{DeviceState}
use Rattle.bac_device_poll.specs.Turns.{Turned, asks}
use Rattle.bac_device_poll.specs.Way.{i_am_by, who_is_octets}
use Rattle.bac_answers.specs.declared.entry.Entry.{Entry}
use Rattle.bac_device_poll.specs.declared.question.Question.{Question}
use Rattle.bac_device_poll.specs.declared.question.Question.TheVariants.{Confirmed, Nothing, WhoIs}
use Rattle.bac_device_poll.specs.declared.turn.DeviceEnd.{DeviceEnd}
use Rattle.bac_device_poll.specs.declared.turn.DeviceEnd.TheVariants.{Done, Foreign, Silent, Unreached}
use Rattle.bac_device_poll.specs.declared.turn.Step.{Step}
use Rattle.bac_device_poll.specs.declared.turn.Step.TheVariants.{Ask, AskLater, End, GoOn}
use Rattle.bac_answers.specs.declared.reject.NoRoute.{NoRoute}
use Rattle.bac_answers.specs.declared.way.Way.{Way}
use Rattle.bac_device_poller.specs.Entries.{RowsAs, putting_device, raising, telling, with_entries}
use Rattle.bac_device_poller.specs.Puts.{put_as}
use Rattle.bac_device_poller.specs.Status.{status_at}
use Rattle.bac_device_poller.specs.Telling.{IsToldBy, LineAs, silent_line}
use Rattle.bac_device_poller.specs.Turns.{TakesLog}
use Rattle.bac_device_poller.specs.declared.doing.Came.{Came}
use Rattle.bac_device_poller.specs.declared.doing.Doing.{Doing}
use Rattle.bac_device_poller.specs.declared.doing.Doing.TheVariants as doing

-- The poll of a device, and what it is at.
pub record PollerAs : Type 0 where
  pub poll : DeviceState
  pub transactions : Transactions  -- the one that is open, and how often it is repeated
  pub way : Way  -- where it is asked
  pub retries : ℕ  -- how often its Who-Is is repeated
  pub sought : ℕ  -- how often it was
  pub doing : Doing
  pub rows : RowsAs

-- that of a device that isn't asked yet
abbrev pub fresh_poller : DeviceState → Transactions → Way → (retries : ℕ) → RowsAs → PollerAs
fresh_poller poll transactions way retries rows = record {
  poll = poll;
  transactions = transactions;
  way = way;
  retries = retries;
  sought = 0;
  doing = doing.Asks;
  rows = rows;
}

-- ---- what comes

-- whether it is asked by a Who-Is who it is
abbrev pub is_who_is : Question → Bool
is_who_is WhoIs = true
is_who_is (Confirmed request) = false
is_who_is Nothing = false

-- the same of a poll
abbrev pub seeks : PollerAs → Bool
seeks p = is_who_is (asked_of_device p.poll)

-- whether a send is waited for
abbrev pub is_waiting : Doing → Bool
is_waiting doing.Waits = true
is_waiting doing.Asks = false
is_waiting (doing.Resends datagram) = false
is_waiting (doing.Hears came) = false
is_waiting doing.Loses = false
is_waiting (doing.Tells end) = false
is_waiting (doing.Ended why) = false

-- whether the device answers what is open: the Who-Is, by an I-Am from where it is asked; or the transaction
abbrev pub is_told : PollerAs → List ℕ → List ℕ → Bool
is_told p from datagram =
    if seeks p
    then is_waiting p.doing && is_some (i_am_by p.way from datagram)
    else bytes_eq from p.way.peer && is_awaited p.transactions.pending datagram

-- whether the router that it is behind rejects what is waited for
abbrev pub is_rejected : PollerAs → List ℕ → List ℕ → Bool
is_rejected p from datagram = is_waiting p.doing && is_some (reject_by p.way from datagram)

-- whether a datagram is one of both
abbrev pub is_answer : PollerAs → List ℕ → List ℕ → Bool
is_answer p from datagram = is_told p from datagram || is_rejected p from datagram

-- when the device answered last: a rejection is its router's word, not its own
abbrev pub answered_behind : Option NoRoute → (now : CivilTime) → (was : Option CivilTime) → Option CivilTime
answered_behind None now was = Some now
answered_behind (Some reject) now was = was

-- with what was taken
abbrev pub hearing : List ℕ → List ℕ → (now : CivilTime) → PollerAs → PollerAs
hearing from datagram now p = record p {
  transactions = closed p.transactions;
  doing = doing.Hears (record { from = from; datagram = datagram; at = now });
  rows = record p.rows { answered = answered_behind (reject_by p.way from datagram) now p.rows.answered };
}

-- A datagram came from an address, at this moment. It is taken if it answers what is open, or rejects it; else all is
-- as it was.
abbrev pub heard_by : List ℕ → List ℕ → (now : CivilTime) → PollerAs → PollerAs
heard_by from datagram now p = if is_answer p from datagram then hearing from datagram now p else p

-- its question is lost
abbrev pub given_up : PollerAs → PollerAs
given_up p = record p { transactions = closed p.transactions; doing = doing.Loses }

-- the open transaction is sent again, or is lost
abbrev pub without_answer : PollerAs → Option Pending → PollerAs
without_answer p None = given_up p
without_answer p (Some request) =
    if nat_le p.transactions.retries request.repeats
    then given_up p
    else record p {
      transactions = record p.transactions { pending = Some (record request { repeats = request.repeats + 1 }) };
      doing = doing.Resends request.request;
    }

-- the Who-Is is sent again, or no I-Am comes
abbrev pub sought_again : PollerAs → PollerAs
sought_again p =
    if nat_lt p.sought p.retries
    then record p { sought = p.sought + 1; doing = doing.Resends (who_is_octets p.way.route) }
    else given_up p

-- No answer came in time. Behind a log that was lost a question is sent once.
abbrev pub missed : PollerAs → PollerAs
missed p =
    if seeks p
    then sought_again p
    else (if p.poll.doubt then given_up p else without_answer p p.transactions.pending)

-- ---- what is put of it, and told

-- behind the poll of a log the next one is begun; else nothing more comes
abbrev pub stepped : Step → DeviceState → Turned
stepped GoOn p = after_end p
stepped Ask p = record (asks p []) { step = Ask }
stepped AskLater p = record (asks p []) { step = AskLater }
stepped (End why) p = record (asks p []) { step = End why }

-- a device that answered in this run has its row put with that
abbrev pub putting_answered : Option CivilTime → RowsAs → RowsAs
putting_answered None r = r
putting_answered (Some at) r = putting_device r

-- nothing more is asked of it: of another device than the one on record, or of another row's, nothing is put; one that
-- is silent before its logs are polled has a line of its own
abbrev pub left_by : DeviceEnd → (polled : Bool) → RowsAs → RowsAs
left_by Done polled r = putting_answered r.answered r
left_by Unreached polled r = putting_answered r.answered r
left_by Foreign polled r = r
left_by Silent true r = putting_answered r.answered r
left_by Silent false r = telling (putting_answered r.answered r) false (silent_line r.called)

-- the same, if it is so: with the status of why it is
abbrev pub left_at : Step → (polled : Bool) → RowsAs → RowsAs
left_at (End why) polled r = left_by why polled (raising r (status_at why))
left_at Ask polled r = r
left_at AskLater polled r = r
left_at GoOn polled r = r

-- why nothing more is asked, if nothing is
abbrev pub end_at : Step → Option DeviceEnd
end_at (End why) = Some why
end_at Ask = None
end_at AskLater = None
end_at GoOn = None

-- what it is at behind its lines
abbrev pub doing_behind : Option DeviceEnd → Doing
doing_behind None = doing.Asks
doing_behind (Some why) = doing.Ended why

-- no lines
abbrev pub is_none_told : List LineAs → Bool
is_none_told [] = true
is_none_told (line ∷ lines) = false

-- what it is at, whether lines are to be told first or none is
abbrev pub doing_with : Option DeviceEnd → (is_told : Bool) → Doing
doing_with end is_told = if is_told then doing_behind end else doing.Tells end

-- what comes of a turn is put and told, and it goes on so
abbrev pub IsStepped : Turned → PollerAs → Step → PollerAs → Type 0
IsStepped t old step new =
    (step ≡ t.step) × (new ≡ record old { poll = t.device; rows = with_entries old.rows t.entries })

-- what is to be put of these rows is, and the rest is told
abbrev pub IsPutBy : Step → RowsAs → PollerAs → List Put → PollerAs → Type 0
IsPutBy step r old puts new =
    (map put_as puts ≡ r.puts)
    × (new ≡ record old { doing = doing_with (end_at step) (is_none_told r.lines); rows = record r { puts = [] } })

-- with these entries, and with those that come as the next log is begun
abbrev pub rows_with : List Entry → Turned → (polled : Bool) → RowsAs → RowsAs
rows_with entries u polled r = left_at u.step polled (with_entries (with_entries r entries) u.entries)

-- entries are put and told, and it goes on so
abbrev pub IsEnded : Step → List Entry → (polled : Bool) → PollerAs → List Put → PollerAs → Type 0
IsEnded step entries polled old puts new =
    let u : Turned = stepped step old.poll in
    IsPutBy u.step (rows_with entries u polled old.rows) (record old { poll = u.device }) puts new

-- This came of its question: what the log that is polled brings is put first, and then the rest.
abbrev pub Settles : Turned → PollerAs → List Put → PollerAs → Type 0
Settles t old puts new =
    (mid : RowsAs) × TakesLog t.log t.device.polled old.rows mid
    × IsEnded t.step t.entries (is_some t.device.polled) (record old { poll = t.device; rows = mid }) puts new

-- ---- what it wants

-- its question goes to its device: by the next transaction, or as a Who-Is; one that asks nothing begins the next log
abbrev pub AsksNext : Question → PollerAs → Next → PollerAs → Type 0
AsksNext (Confirmed request) old (next.Send octets to) new =
    (octets ≡ request_octets (towards old.transactions.route) (next_invoke old.transactions.invoke) request)
    × (to ≡ old.way.peer)
    × (new ≡ record old { transactions = begun_with request old.transactions; doing = doing.Waits })
AsksNext WhoIs old (next.Send octets to) new =
    (octets ≡ who_is_octets old.way.route) × (to ≡ old.way.peer)
    × (new ≡ record old { sought = 0; doing = doing.Waits })
AsksNext Nothing old (next.Keep puts) new = Settles (after_end old.poll) old puts.items new
AsksNext question old other new = ⊥

-- an answer that came, by what was asked
abbrev pub Comes : (seeks : Bool) → PollerAs → Came → Turned → Type 0
Comes true p came t = t ≡ after_i_am p.poll (i_am_by p.way came.from came.datagram)
Comes false p came t = Takes p.poll came.datagram came.at t

-- a rejection is its router's word; else it is an answer
abbrev pub ComesBy : Option NoRoute → PollerAs → Came → Turned → Type 0
ComesBy None p came t = Comes (seeks p) p came t
ComesBy (Some reject) p came t = t ≡ after_reject p.poll reject

-- no answer came
abbrev pub lost_of : PollerAs → Turned
lost_of p = if seeks p then after_i_am p.poll None else after_loss p.poll

-- the next line is told
abbrev pub TellsNext : List LineAs → Option DeviceEnd → PollerAs → Next → PollerAs → Type 0
TellsNext (line ∷ lines) end old wanted new =
    IsToldBy line.good line.text wanted
    × (new ≡ record old { doing = doing_with end (is_none_told lines); rows = record old.rows { lines = lines } })
TellsNext [] end old wanted new = (wanted ≡ next.Read) × (new ≡ record old { doing = doing_behind end })

-- what it wants, by what it is at
abbrev pub GivesBy : Doing → PollerAs → Next → PollerAs → Type 0
GivesBy doing.Asks old wanted new = AsksNext (asked_of_device old.poll) old wanted new
GivesBy (doing.Resends datagram) old (next.Send octets to) new =
    (octets ≡ datagram) × (to ≡ old.way.peer) × (new ≡ record old { doing = doing.Waits })
GivesBy doing.Waits old wanted new = (wanted ≡ next.Read) × (new ≡ old)
GivesBy (doing.Hears came) old (next.Keep puts) new =
    (t : Turned) × ComesBy (reject_by old.way came.from came.datagram) old came t × Settles t old puts.items new
GivesBy doing.Loses old (next.Keep puts) new =
    Settles (lost_of old) old puts.items new
GivesBy (doing.Tells end) old wanted new = TellsNext old.rows.lines end old wanted new
GivesBy (doing.Ended why) old wanted new = (wanted ≡ next.End) × (new ≡ old)
GivesBy what old other new = ⊥
