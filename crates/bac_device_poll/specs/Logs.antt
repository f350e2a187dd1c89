-- The logs of a device are polled, one after the other.
use Rattle.std.specs.Prelude.{ℕ, ◌-◌, ◌==◌, nat_lt, Bool, true, false, ◌&&◌, if◌then◌else◌, List, [], ◌∷◌}
use Rattle.std.specs.Prelude.{Option, None, Some}
use Rattle.bac_link.specs.declared.exchanges.Verdict.{Verdict}
use Rattle.bac_link.specs.declared.exchanges.Verdict.TheVariants.{Ack, BadReply, Refused}
use Rattle.bac_walk.specs.declared.batch.Numbered.{Numbered}
use Rattle.bac_walk.specs.declared.outcome.WalkFault.TheVariants as walk
use Rattle.bac_poll.specs.Poll.{after, after_count, after_restart, after_revision, after_too_many}
use Rattle.bac_poll.specs.State.{PollState}
use Rattle.bac_poll.specs.Turns.{Turned as LogTurned, ends}
use Rattle.bac_poll_steps.specs.declared.stage.Stage.TheVariants as log
use Rattle.bac_poll_steps.specs.declared.stage.Stage.{Stage as LogStage}
use Rattle.bac_poll_steps.specs.declared.turn.PollEnd.{PollEnd}
use Rattle.bac_poll_steps.specs.declared.turn.PollEnd.TheVariants.{Fault}
use Rattle.bac_device_poll.specs.Identity.{device_of}
use Rattle.bac_device_poll.specs.Refusals.{is_busy, is_too_long}
use Rattle.bac_device_poll.specs.State.{DeviceState, LogAs, begun}
use Rattle.bac_device_poll.specs.Turns.{Turned, asks, leaves}
use Rattle.bac_device_poll.specs.Values.{number_of, told_by, value_by}
use Rattle.bac_device_poll.specs.Word.{moment_of, restart_of}
use Rattle.bac_answers.specs.declared.entry.Entry.{Entry}
use Rattle.bac_device_poll.specs.declared.logs.Wanted.{Wanted}
use Rattle.bac_device_poll.specs.declared.logs.Wanted.TheVariants.{Records, Count, Revision, Restart}
use Rattle.bac_device_poll.specs.declared.stage.Stage.{Stage}
use Rattle.bac_device_poll.specs.declared.stage.Stage.TheVariants.{Between, Ended, Log}
use Rattle.bac_device_poll.specs.declared.task.Polled.{Polled}
use Rattle.bac_device_poll.specs.declared.turn.DeviceEnd.TheVariants.{Done, Silent}
use Rattle.bac_device_poll.specs.declared.turn.Step.{Step}
use Rattle.bac_device_poll.specs.declared.turn.Step.TheVariants.{Ask, End, GoOn}

-- ---- one log behind the other

-- the device has no more logs
abbrev pub is_done : DeviceState → List Entry → Turned
is_done p entries = record (asks (record p { stage = Ended; polled = None }) entries) { step = End Done }

-- the first of these logs is polled
abbrev pub begins_with : DeviceState → List LogAs → List Entry → Turned
begins_with p [] entries = is_done p entries
begins_with p (task ∷ logs) entries =
    asks (record p {
      stage = Log;
      polled = Some (record {
        log = task.log;
        poll = begun task.log (device_of p.who) p.many p.told task.begin;
        left = p.steps;
      });
      logs = logs;
    }) entries

-- The next log is polled, if there is one.
abbrev pub begins : DeviceState → List Entry → Turned
begins p entries = begins_with p p.logs entries

-- ---- what an answer makes of one

-- what an answer is read as, by what it is for
abbrev pub wanted_at : LogStage → Wanted
wanted_at log.Joins = Records
wanted_at log.Prior = Records
wanted_at log.Ahead = Records
wanted_at log.Again = Records
wanted_at log.Each = Records
wanted_at log.ByNumber = Records
wanted_at (log.Oldest aim) = Records
wanted_at (log.Counts aim) = Count
wanted_at (log.UpTo aim) = Records
wanted_at (log.Back aim) = Records
wanted_at log.Revision = Revision
wanted_at log.Restart = Restart

-- records that came, or were refused
abbrev pub with_records : PollState → Verdict → List ℕ → LogTurned
with_records q Ack datagram = after q datagram
with_records q (Refused refusal) datagram = ends q (Fault (walk.Refused refusal))
with_records q BadReply datagram = ends q (Fault walk.BadReply)

-- A refusal of records ends the poll of a log; one of a count, or of a part of the word, is an answer.
abbrev pub read_as : PollState → Wanted → Verdict → List ℕ → LogTurned
read_as q Records verdict datagram = with_records q verdict datagram
read_as q Count verdict datagram = after_count q (number_of (value_by verdict datagram))
read_as q Revision verdict datagram = after_revision q (number_of (value_by verdict datagram))
read_as q Restart verdict datagram =
    after_restart q (restart_of (told_by verdict datagram)) (moment_of (told_by verdict datagram))

-- but one that passes, and was given too often, is none: it ends the poll
abbrev pub log_after : PollState → Verdict → List ℕ → LogTurned
log_after q verdict datagram =
    if is_busy verdict then with_records q verdict datagram else read_as q (wanted_at q.stage) verdict datagram

-- ---- how many replies with records a log has in a run

-- how many more it may have behind these records, which one reply brought: one less, if there are any
abbrev pub left_behind : Option ℕ → List Numbered → Option ℕ
left_behind left [] = left
left_behind None (first ∷ others) = None
left_behind (Some n) (first ∷ others) = Some (n - 1)

-- it may have none
abbrev pub is_used_up : Option ℕ → Bool
is_used_up None = false
is_used_up (Some n) = n == 0

-- its poll ends by itself, or since it may have no more
abbrev pub has_ended : Option PollEnd → (left : Option ℕ) → Bool
has_ended None left = is_used_up left
has_ended (Some why) left = true

-- ---- a turn of the log that is polled

-- what is asked behind it, whether the poll of the log has ended or goes on
abbrev pub stage_behind : Bool → Stage
stage_behind true = Between
stage_behind false = Log

-- how it goes on
abbrev pub step_behind : Bool → Step
step_behind true = GoOn
step_behind false = Ask

-- what is known of the log then
abbrev pub polled_behind : Polled → LogTurned → Polled
polled_behind q t = record q { poll = t.poll; left = left_behind q.left t.records }

-- the turn, with which the poll of the log has ended, or goes on
abbrev pub logged : (ended : Bool) → DeviceState → Polled → LogTurned → Turned
logged ended p q t = record {
  device = record p { stage = stage_behind ended; polled = Some (polled_behind q t) };
  entries = [];
  log = Some t;
  step = step_behind ended;
}

-- The log that is polled has this turn. Its poll ends by itself, or with the last reply with records that it may have.
abbrev pub with_log : DeviceState → Polled → LogTurned → Turned
with_log p q t = logged (has_ended t.end (left_behind q.left t.records)) p q t

-- ---- too many records

-- what is read as records
abbrev pub is_records : Wanted → Bool
is_records Records = true
is_records Count = false
is_records Revision = false
is_records Restart = false

-- too many records were asked for, where fewer can be
abbrev pub is_too_many : PollState → Verdict → Bool
is_too_many q verdict = is_too_long verdict && (is_records (wanted_at q.stage) && nat_lt 1 q.walk.count)

-- Half as many are asked for from now on: of the log that is polled, and of those behind it.
abbrev pub halved : DeviceState → Polled → Turned
halved p q = asks (record p {
  many = (after_too_many q.poll).walk.count;
  polled = Some (record q { poll = after_too_many q.poll });
}) []

-- the log of a device, if one is polled
abbrev pub log_at : DeviceState → Option Polled → Verdict → List ℕ → Turned
log_at p None verdict datagram = asks p []
log_at p (Some q) verdict datagram =
    if is_too_many q.poll verdict then halved p q else with_log p q (log_after q.poll verdict datagram)

-- An answer to the question of the log that is polled.
abbrev pub after_log : DeviceState → Verdict → List ℕ → Turned
after_log p verdict datagram = log_at p p.polled verdict datagram

-- ---- no answer

-- Its log is lost: behind it the first question of the next one is sent once. If that is lost, too, the device is
-- silent, and the logs behind it aren't asked.
abbrev pub lost : DeviceState → Polled → Turned
lost p q =
    if p.doubt
    then record (leaves (record p { polled = Some q }) [] Silent) { log = Some (ends q.poll (Fault walk.Lost)) }
    else with_log (record p { doubt = true }) q (ends q.poll (Fault walk.Lost))

-- The poll of a log has ended: the next one.
abbrev pub after_end : DeviceState → Turned
after_end p = begins p []
