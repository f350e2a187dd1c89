-- What each call makes of a device's trend logs (clause 12.25).
use Rattle.std.specs.Prelude.{◌≡◌, ◌≢◌, ℕ, ◌==◌, ◌&&◌, ◌⊎◌, min, Bool, true, false, if◌then◌else◌, List, ◌++◌}
use Rattle.std.specs.Prelude.{Option, None, Some, Result, Ok, Err}
use Rattle.std.specs.Map.{keys_of}
use Rattle.bac_wire.specs.Stamp.{CivilTime, ticks_of}
use Rattle.bac_apdu.specs.Apdu.{Apdu, Confirmed, Abort, apdu_octets}
use Rattle.bac_apdu.specs.FormCanon.{canon_form}
use Rattle.bac_apdu.specs.Frame.{frame_at, frame_octets}
use Rattle.bac_apdu.specs.Npdu.{Header, Place, header_octets}
use Rattle.bac_apdu.specs.Service.ReadRange.{read_range, range_parameters, read_range_at}
use Rattle.bac_apdu.specs.Service.WriteProperty.{PropertyWrite}
use Rattle.bac_apdu.specs.declared.reason.Reason.{Reason}
use Rattle.bac_apdu.specs.declared.service.extent.Extent.{Extent}
use Rattle.bac_apdu.specs.declared.service.read_range.ReadRange.{ReadRange}
use Rattle.bac_log.specs.Ack.{log_buffer, read_range_service}
use Rattle.bac_log.specs.TrendLog.{Log, newest, sequence_number, last_ordinal, logs, purges, enables}
use Rattle.bac_log.specs.declared.entry.Entry.{Entry}
use Rattle.bac_objects.specs.Records.{records_of}
use Rattle.bac_objects.specs.Sampling.{is_due, log_id, log_of, object_at, sample_of, sampled, ticked}
use Rattle.bac_objects.specs.Sound.{HasLogs, IsSound}
use Rattle.bac_objects.specs.State.{State}
use Rattle.bac_objects.specs.declared.fault.Fault.{Fault}
use Rattle.bac_objects.specs.declared.object.Body.TheVariants as body
use Rattle.bac_objects.specs.declared.object.Logger.{Logger}
use Rattle.bac_objects.specs.declared.object.Object as object
use Rattle.bac_device.specs.Answer.{answer, records_ack}
use Rattle.bac_device.specs.History.{heard_in, told_in, write_asked}
use Rattle.bac_device.specs.Reply.{error, reject, reply}
use Rattle.bac_device.specs.declared.reply.Receiver.{Receiver}
use Rattle.bac_device.specs.declared.reply.Reply.{Reply}

-- ---- steps

-- a log stays as it is, logs an entry, is purged, or its Enable is changed, each while sequence numbers are left
abbrev pub StepsTo : Log → Log → Type 0
StepsTo log new =
    (new ≡ log)
    ⊎ (newest log ≢ last_ordinal) × ((entry : Entry) × (new ≡ logs entry log))
    ⊎ (newest log ≢ last_ordinal) × ((moment : CivilTime) × (new ≡ purges moment log))
    ⊎ (newest log ≢ last_ordinal) × ((value : Bool) × ((moment : CivilTime) × (new ≡ enables value moment log)))

-- Each log moves by at most one step; the device keeps its logs, its identifier, its reply size and the identifiers of
-- its objects.
pub record Keeps (d new : State) : Type 0 where
  pub reply_size : new.reply_size ≡ d.reply_size
  pub instance : new.instance ≡ d.instance
  pub ids : keys_of new.objects ≡ keys_of d.objects
  pub logs : (n : ℕ) (log : Log) → log_of d n ≡ Some log →
      (after : Log) × (log_of new n ≡ Some after) × StepsTo log after
  pub lacks : (n : ℕ) → log_of d n ≡ None → log_of new n ≡ None
  pub has : HasLogs d → HasLogs new

-- ---- which entry a step appends

-- the log after a sample on demand, of its source at the device's clock
abbrev pub after_sample : State → Logger → Log
after_sample d l = logs (sample_of d d.clock l.source) l.log

-- a sample that is taken is that entry, its number is told, and every other log stays
abbrev pub SamplesAppend : Type 0
SamplesAppend =
    (d : State) (n : ℕ) (o : object.Object) (l : Logger) (said : ℕ × State) → object_at d n ≡ Some o
    → o.body ≡ body.Log l → sampled d n ≡ Ok said
    → (log_of said.1 n ≡ Some (after_sample d l)) × (said.0 ≡ sequence_number (newest (after_sample d l)))
    × ((m : ℕ) → m ≢ n → log_of said.1 m ≡ log_of d m)

-- The log as the clock goes to a moment: due, enabled and with a number left, it takes one sample of its source as it
-- was.
abbrev pub after_tick : State → CivilTime → Logger → Log
after_tick d stamp l =
    if is_due (ticks_of d.origin) (ticks_of d.clock) (ticks_of stamp) l.interval && l.log.enabled
    then (if newest l.log == last_ordinal then l.log else logs (sample_of d stamp l.source) l.log) else l.log

-- as the clock goes on each log is that
abbrev pub TicksAppend : Type 0
TicksAppend =
    (d : State) (stamp : CivilTime) (n : ℕ) (o : object.Object) (l : Logger) → object_at d n ≡ Some o
    → o.body ≡ body.Log l → log_of (ticked d stamp) n ≡ Some (after_tick d stamp l)

-- a datagram that isn't a WriteProperty to a log leaves its records
abbrev pub OtherWritesLeaveLogs : Type 0
OtherWritesLeaveLogs =
    (d : State) (datagram : List ℕ) (n : ℕ)
    → ((w : PropertyWrite) → write_asked datagram ≡ Some w → w.object ≢ log_id n)
    → log_of (answer d datagram).1 n ≡ log_of d n

-- ---- questions

-- a reply is expected: 01 04, or 01 0c with the place behind a router that it comes from
abbrev pub asking : Option Place → Header
asking source = record { network = false; reply = true; priority = 0; dest = None; source = source; hops = 0 }

-- a ReadRange of the Log_Buffer of a Trend Log
abbrev pub question : ℕ → Extent → ReadRange
question n extent = record { object = log_id n; property = log_buffer; index = None; extent = extent }

-- as a datagram that takes an answer of 1476 octets
abbrev pub question_octets : Option Place → ℕ → ℕ → Extent → List ℕ
question_octets source invoke n extent =
    frame_octets (header_octets (asking source)
    ++ apdu_octets
    (Confirmed false 1476 invoke read_range_service (canon_form read_range (range_parameters (question n extent)))))

-- ---- answers to any ReadRange

-- an Abort (20.1.9)
abbrev pub is_abort : Apdu → Bool
is_abort (Abort by_server invoke reason) = true
is_abort other = false

-- there is an APDU, and it is an Abort
abbrev pub told_abort : Option Apdu → Bool
told_abort None = false
told_abort (Some apdu) = is_abort apdu

-- the reply is an Abort
abbrev pub is_aborted : Option Reply → Bool
is_aborted None = false
is_aborted (Some reply) = told_abort (told_in (frame_at reply.datagram))

-- an unsegmented ReadRange, whatever it asks for, and whatever the greatest answer is that it takes
abbrev pub IsRangeAsked : List ℕ → Bool → Option Place → ℕ → ℕ → List ℕ → Type 0
IsRangeAsked datagram to_all source size invoke parameters =
    heard_in (frame_at datagram)
    ≡ Some
    (record { to_all = to_all; source = source; apdu = Confirmed false size invoke read_range_service parameters })

-- no such ReadRange is answered by an Abort
abbrev pub RangesAreNotAborted : Type 0
RangesAreNotAborted =
    (d : State) (datagram : List ℕ) (to_all : Bool) (source : Option Place) (size invoke : ℕ) (parameters : List ℕ)
    → IsSound d → IsRangeAsked datagram to_all source size invoke parameters → is_aborted (answer d datagram).0 ≡ false

-- the records that fit, or the first error
abbrev pub log_said : ℕ → ℕ → ReadRange → Result Log Fault → Apdu
log_said limit invoke r (Ok log) = records_ack limit invoke r.object r.extent log
log_said limit invoke r (Err fault) = error invoke read_range_service fault

-- or why it can't be read
abbrev pub log_answer : State → ℕ → ℕ → Result ReadRange Reason → Apdu
log_answer d limit invoke (Ok r) = log_said limit invoke r (records_of d r)
log_answer d limit invoke (Err reason) = reject invoke reason

-- to this device alone it is answered so, and changes nothing
abbrev pub RangesAreAnswered : Type 0
RangesAreAnswered =
    (d : State) (datagram : List ℕ) (source : Option Place) (size invoke : ℕ) (parameters : List ℕ)
    → IsSound d → IsRangeAsked datagram false source size invoke parameters
    → (to : Receiver)
    × (answer d datagram
    ≡ (
      Some
          (reply (record { to = to; place = source })
          (log_answer d (min size d.reply_size) invoke (read_range_at parameters))),
      d,
    ))
