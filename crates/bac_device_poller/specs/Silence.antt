-- A device that falls silent, and logs of it that are lost. Read `WaitsOnce`, `LostStopsNone` and `AsksNoMore`.
use Rattle.std.specs.Prelude.{◌≡◌, ◌≢◌, ◌≤◌, ◌⊎◌, ℕ, ◌+◌, Bool, true, false, if◌then◌else◌, List, [], ◌∷◌, ◌++◌}
use Rattle.std.specs.Prelude.{count_by, map, Option, None, Some}
use Rattle.bac_wire.specs.Primitive.{Id}
use Rattle.bac_wire.specs.Stamp.{CivilTime}
use Rattle.bac_archive.specs.declared.row.Put.{Put}
use Rattle.bac_drive.specs.declared.machine.Next.{Next}
use Rattle.bac_drive.specs.declared.machine.Next.TheVariants as next
use Rattle.bac_device_poll.specs.Identity.{device_of}
use Rattle.bac_device_poll.specs.Laws.{IsHeard, IsRejected, ended_in, left, not_asked_in}
use Rattle.bac_device_poll.specs.Loss.{is_count}
use Rattle.bac_device_poll.specs.Poll.{asked_of_device}
use Rattle.bac_device_poll.specs.Rejects.{reject_by}
use Rattle.bac_device_poll.specs.State.{DeviceState, LogAs, begun}
use Rattle.bac_device_poll.specs.Turns.{Turned}
use Rattle.bac_device_poll.specs.declared.question.Question.{Question}
use Rattle.bac_device_poll.specs.declared.question.Question.TheVariants.{Confirmed, Nothing, WhoIs}
use Rattle.bac_device_poll.specs.declared.stage.Stage.{Stage}
use Rattle.bac_device_poll.specs.declared.stage.Stage.TheVariants as stage
use Rattle.bac_device_poll.specs.declared.task.Polled.{Polled}
use Rattle.bac_device_poll.specs.declared.turn.DeviceEnd.{DeviceEnd}
use Rattle.bac_device_poll.specs.declared.turn.DeviceEnd.TheVariants.{Silent}
use Rattle.bac_device_poller.specs.Poller.{GivesBy, PollerAs, Settles, end_at, heard_by, is_answer, is_waiting}
use Rattle.bac_device_poller.specs.Poller.{missed, stepped}
use Rattle.bac_device_poller.specs.Telling.{LineAs, log_called, not_asked_line}
use Rattle.bac_device_poller.specs.declared.doing.Came.{Came}
use Rattle.bac_device_poller.specs.declared.doing.Doing.{Doing}
use Rattle.bac_device_poller.specs.declared.doing.Doing.TheVariants as doing
use Rattle.bac_device_poller.specs.declared.ids.Ids.{Ids}

-- ---- a run of a device's poll

-- what happens to it: ids are lent to it for new logs; it says what is to be done next; an answer comes from an
-- address, at a moment; or none came in time
pub data Happening : Type 0 where
  Lent : Ids → Happening
  Wanted : Next → Happening
  Answered : List ℕ → List ℕ → CivilTime → Happening
  Missed : Happening

-- what that makes of it
abbrev pub Happens : PollerAs → Happening → PollerAs → Type 0
Happens old (Lent ids) new = new ≡ record old { rows = record old.rows { ids = ids } }
Happens old (Wanted wanted) new = GivesBy old.doing old wanted new
Happens old (Answered from datagram now) new =
    (is_answer old from datagram ≡ true) × (new ≡ heard_by from datagram now old)
Happens old Missed new = (is_waiting old.doing ≡ true) × (new ≡ missed old)

-- this happens to it, one after the other
abbrev pub Runs : PollerAs → List Happening → PollerAs → Type 0
Runs old [] new = new ≡ old
Runs old (h ∷ more) new = (mid : PollerAs) × Happens old h mid × Runs mid more new

-- whether a datagram is to be sent
abbrev pub is_send : Next → Bool
is_send (next.Send octets to) = true
is_send other = false

-- whether one is sent to the device
abbrev pub is_sent : Happening → Bool
is_sent (Wanted wanted) = is_send wanted
is_sent (Lent ids) = false
is_sent (Answered from datagram now) = false
is_sent Missed = false

-- no answer comes
abbrev pub IsUnanswered : List Happening → Type 0
IsUnanswered [] = Unit {0}
IsUnanswered (Lent ids ∷ more) = IsUnanswered more
IsUnanswered (Wanted wanted ∷ more) = IsUnanswered more
IsUnanswered (Answered from datagram now ∷ more) = ⊥
IsUnanswered (Missed ∷ more) = IsUnanswered more

-- why nothing more is asked of it, if nothing is; its last lines may still be told
abbrev pub end_of : Doing → Option DeviceEnd
end_of (doing.Ended why) = Some why
end_of (doing.Tells end) = end
end_of other = None

-- its logs are polled, this one now
abbrev pub IsPolling : PollerAs → Polled → Type 0
IsPolling p q = (p.poll.stage ≡ stage.Log) × (p.poll.polled ≡ Some q)

-- something is asked
abbrev pub IsAsking : Question → Type 0
IsAsking (Confirmed request) = Unit {0}
IsAsking WhoIs = Unit {0}
IsAsking Nothing = ⊥

-- ---- a silent device is waited for once

-- it told who it is, and is asked for more
abbrev pub IsMet : Stage → Type 0
IsMet stage.Instance = ⊥
IsMet stage.IAm = ⊥
IsMet stage.Name = ⊥
IsMet stage.Between = ⊥
IsMet stage.Ended = ⊥
IsMet other = Unit {0}

-- its whole list is asked for
abbrev pub is_objects : Stage → Bool
is_objects stage.Objects = true
is_objects other = false

-- how much is asked behind a question that is lost, each of it once: the next one, and nothing behind that; but its
-- whole list and how many elements that has are one question
abbrev pub behind_lost : (doubt : Bool) → Stage → ℕ
behind_lost true s = if is_count s then 1 else 0
behind_lost false s = if is_objects s then 2 else 1

-- how often one is asked in vain: a question and its repeats, and what is asked behind it; if the one before wasn't
-- answered, or a log was lost, it isn't repeated
abbrev pub sends_in_vain : (doubt : Bool) → Stage → (retries : ℕ) → ℕ
sends_in_vain true s retries = 1 + behind_lost true s
sends_in_vain false s retries = (retries + 1) + behind_lost false s

-- A device that falls silent behind who it is, is waited for once, and for one wait more, or two where its list is
-- asked for, whatever else is to be asked of it, and however many logs it has: from where a question is asked, no more
-- than so many datagrams are sent to it before it answers.
abbrev pub WaitsOnce : Type 0
WaitsOnce =
    (old new : PollerAs) (run : List Happening) → IsMet old.poll.stage → IsAsking (asked_of_device old.poll) →
    old.doing ≡ doing.Asks → Runs old run new → IsUnanswered run →
    count_by is_sent run ≤ sends_in_vain old.poll.doubt old.poll.stage old.transactions.retries

-- it is asked who it is
abbrev pub IsFirst : Stage → Type 0
IsFirst stage.Instance = Unit {0}
IsFirst stage.IAm = Unit {0}
IsFirst stage.Name = Unit {0}
IsFirst other = ⊥

-- the same before it told that: a question and its repeats; and behind a Who-Is, to which no I-Am came, the question
-- that is asked in its place
abbrev pub first_in_vain : Question → (retries : ℕ) → (again : ℕ) → ℕ
first_in_vain (Confirmed request) retries again = retries + 1
first_in_vain WhoIs retries again = (again + 1) + (retries + 1)
first_in_vain Nothing retries again = 0

-- A device that falls silent before that, or never answers, is waited for once.
abbrev pub WaitsOnceFirst : Type 0
WaitsOnceFirst =
    (old new : PollerAs) (run : List Happening) → old.poll.polled ≡ None → IsFirst old.poll.stage →
    old.doing ≡ doing.Asks → Runs old run new → IsUnanswered run →
    count_by is_sent run ≤ first_in_vain (asked_of_device old.poll) old.transactions.retries old.retries

-- the line of a log that isn't asked
abbrev pub not_asked_as : (called : List ℕ) → LogAs → LineAs
not_asked_as called task = record { good = false; text = not_asked_line (log_called called task.log) }

-- Where two logs are lost, one behind the other, and no answer came between, the device is silent: nothing more is
-- asked of it, and each log that waits is told as not asked.
abbrev pub EndsSilent : Type 0
EndsSilent =
    (old new : PollerAs) (q : Polled) (wanted : Next) → IsPolling old q → old.poll.doubt ≡ true →
    GivesBy doing.Loses old wanted new →
    (end_of new.doing ≡ Some Silent) × (left new.poll ≡ [])
    × (front : List LineAs) × (new.rows.lines ≡ front ++ map (not_asked_as old.rows.called) old.poll.logs)

-- ---- a log that is lost stops no other

-- whether its question is sent next, behind its lines
abbrev pub asks_next : Doing → Bool
asks_next doing.Asks = true
asks_next (doing.Tells None) = true
asks_next other = false

-- this log is polled, where its rows end, and these still wait
pub record IsBegun (task : LogAs) (behind : List LogAs) (old new : PollerAs) : Type 0 where
  pub stage : new.poll.stage ≡ stage.Log
  pub polled : new.poll.polled ≡ Some (record {
    log = task.log;
    poll = begun task.log (device_of old.poll.who) old.poll.many old.poll.told task.begin;
    left = old.poll.steps;
  })
  pub logs : new.poll.logs ≡ behind
  pub asks : asks_next new.doing ≡ true

-- A log that is lost stops no other: if an answer came since the log before was lost, the next one is polled, and those
-- behind it wait as they did. Each answer of the device to the question of a log is such, and only a loss puts the next
-- one in doubt.
abbrev pub LostStopsNone : Type 0
LostStopsNone =
    ((old new : PollerAs) (q : Polled) (task : LogAs) (behind : List LogAs) (wanted : Next) → IsPolling old q →
    old.poll.doubt ≡ false → old.poll.logs ≡ task ∷ behind → GivesBy doing.Loses old wanted new →
    IsBegun task behind old new)
    × ((old new : PollerAs) (q : Polled) (came : Came) (wanted : Next) → IsPolling old q →
    reject_by old.way came.from came.datagram ≡ None → GivesBy (doing.Hears came) old wanted new →
    new.poll.doubt ≡ false)
    × ((old new : PollerAs) (q : Polled) (h : Happening) → IsPolling old q → old.poll.doubt ≡ false →
    old.doing ≢ doing.Loses → Happens old h new → new.poll.doubt ≡ false)

-- ---- what has ended isn't asked again

-- its question is to be sent, and nothing is open
abbrev pub IsNew : PollerAs → Type 0
IsNew p = (p.doing ≡ doing.Asks) × (p.transactions.pending ≡ None)

-- What ends the poll of a device, or the poll of the last of its logs, ends what is asked of it.
abbrev pub EndsAsTold : Type 0
EndsAsTold =
    (old new : PollerAs) (t : Turned) (puts : List Put) → Settles t old puts new →
    end_of new.doing ≡ end_at (stepped t.step t.device).step

-- Once nothing more is asked of a device, nothing is sent to it any more, whatever happens; its poll stays as it is.
abbrev pub AsksNoMore : Type 0
AsksNoMore =
    (old mid new : PollerAs) (before behind : List Happening) (why : DeviceEnd) → IsNew old → Runs old before mid →
    end_of mid.doing ≡ Some why → Runs mid behind new →
    (count_by is_sent behind ≡ 0) × (new.poll ≡ mid.poll) × (end_of new.doing ≡ Some why)

-- what comes of the question of a log: an answer, or none to any send; or a rejection
abbrev pub ComesOfLog : DeviceState → Turned → Type 0
ComesOfLog p t = IsHeard p t ⊎ IsRejected p t

-- Of the logs that are still to be polled, what comes of a question takes out the one whose poll it ends, and those
-- that are told as not asked; no other, and it brings none.
abbrev pub EndedAreOut : Type 0
EndedAreOut =
    (old new : PollerAs) (q : Polled) (t : Turned) (puts : List Put) → IsPolling old q → ComesOfLog old.poll t →
    Settles t old puts new →
    left old.poll ≡ ended_in t.log old.poll.polled ++ (not_asked_in t.entries ++ left new.poll)

-- So a log that is out isn't polled again in this run: whatever happens, those that are left are the last of those that
-- were, in their order.
abbrev pub PollsOnce : Type 0
PollsOnce =
    (old new : PollerAs) (q : Polled) (run : List Happening) → IsPolling old q → IsNew old → Runs old run new →
    (front : List Id) × (left old.poll ≡ front ++ left new.poll)
