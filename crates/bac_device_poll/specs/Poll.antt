-- How a device is polled: what is asked, and what an answer makes of it. Read `Takes` from the end.
use Rattle.std.specs.Prelude.{◌≡◌, ℕ, ◌+◌, ◌&&◌, nat_lt, max, not, Bool, false, MatchBool, List, [], Option, None}
use Rattle.std.specs.Prelude.{Some, option_map}
use Rattle.bac_wire.specs.Primitive.{Id}
use Rattle.bac_wire.specs.Stamp.{CivilTime}
use Rattle.bac_apdu.specs.Apdu.{Apdu}
use Rattle.bac_link.specs.Datagrams.{apdu_in}
use Rattle.bac_link.specs.Exchanges.{verdict_of}
use Rattle.bac_link.specs.Requests.{IsSendable, IsTooLong}
use Rattle.bac_link.specs.declared.exchanges.Verdict.{Verdict}
use Rattle.bac_link.specs.declared.exchanges.Verdict.TheVariants.{BadReply}
use Rattle.bac_link.specs.declared.request.Request.TheVariants as request
use Rattle.bac_poll.specs.Poll.{asked_by_poll, nothing_told}
use Rattle.bac_known.specs.declared.date_time.DateTime.{DateTime}
use Rattle.bac_device_poll.specs.Clock.{IsOffset, after_clock, after_date, clocks}
use Rattle.bac_device_poll.specs.Identity.{after_instance, after_name, device_of, itself, own_device}
use Rattle.bac_device_poll.specs.Listing.{after_count, after_element, after_objects}
use Rattle.bac_device_poll.specs.Logs.{after_log}
use Rattle.bac_device_poll.specs.Refusals.{is_busy}
use Rattle.bac_device_poll.specs.Naming.{after_description, after_log_name, after_source, after_units, subject, unnamed}
use Rattle.bac_device_poll.specs.Source.{source_of}
use Rattle.bac_device_poll.specs.State.{DeviceState, LogAs}
use Rattle.bac_device_poll.specs.Turns.{Turned, asks}
use Rattle.bac_device_poll.specs.Values.{IsText, date_of, enumerated_of, number_of, object_of, objects_of, time_of}
use Rattle.bac_device_poll.specs.Values.{told_by, value_by}
use Rattle.bac_device_poll.specs.Word.{moment_of, restart_of}
use Rattle.bac_answers.specs.declared.entry.Offset.{Offset}
use Rattle.bac_device_poll.specs.declared.poll.Known.{Known}
use Rattle.bac_device_poll.specs.declared.question.Question.{Question}
use Rattle.bac_device_poll.specs.declared.question.Question.TheVariants.{Confirmed, Nothing, WhoIs}
use Rattle.bac_device_poll.specs.declared.stage.Stage.{Stage}
use Rattle.bac_device_poll.specs.declared.stage.Stage.TheVariants.{Between, Count, Date, Description, Element, Ended}
use Rattle.bac_device_poll.specs.declared.stage.Stage.TheVariants.{IAm, Instance}
use Rattle.bac_device_poll.specs.declared.stage.Stage.TheVariants.{Log, LogName, Name, Objects, Restart, Revision}
use Rattle.bac_device_poll.specs.declared.stage.Stage.TheVariants.{Source, Time, Units}
use Rattle.bac_device_poll.specs.declared.task.Polled.{Polled}
use Rattle.bac_device_poll.specs.declared.turn.Step.TheVariants.{AskLater}

-- ---- what is asked

-- a property of an object
abbrev pub asks_for : Id → (property : ℕ) → Question
asks_for object property =
    Confirmed (request.ReadProperty (record { object = object; property = property; index = None }))

-- an element of its Object_List (76); 0 is how many there are (clause 12.1.5)
abbrev pub asks_element : Id → (index : ℕ) → Question
asks_element device index =
    Confirmed (request.ReadProperty (record { object = device; property = 76; index = Some index }))

-- what the poll of a log asks
abbrev pub asks_log : Option Polled → Question
asks_log None = Nothing
asks_log (Some q) = Confirmed (asked_by_poll q.poll)

-- Object_Identifier (75), Object_Name (77), Time_Of_Device_Restart (203), Database_Revision (155), Local_Date (56),
-- Local_Time (57), Object_List (76), Log_DeviceObjectProperty (132), Units (117), Description (28): clauses 12.1, 12.11
-- and 12.25
abbrev pub question_at : DeviceState → Stage → Question
question_at p Instance = asks_for itself 75
question_at p IAm = WhoIs
question_at p Name = asks_for itself 77
question_at p Restart = asks_for (device_of p.who) 203
question_at p Revision = asks_for (device_of p.who) 155
question_at p Date = asks_for (device_of p.who) 56
question_at p (Time date) = asks_for (device_of p.who) 57
question_at p Objects = asks_for (device_of p.who) 76
question_at p Count = asks_element (device_of p.who) 0
question_at p (Element index count) = asks_element (device_of p.who) index
question_at p (LogName log) = asks_for log 77
question_at p (Source log) = asks_for log 132
question_at p (Units log) = asks_for (subject p.who log p.naming.source) 117
question_at p (Description log) = asks_for (subject p.who log p.naming.source) 28
question_at p Log = asks_log p.polled
question_at p Between = Nothing
question_at p Ended = Nothing

-- What is asked of the device next.
abbrev pub asked_of_device : DeviceState → Question
asked_of_device p = question_at p p.stage

-- a request that fits, and can be sent
abbrev pub IsFit : Question → Type 0
IsFit (Confirmed asked) = (IsTooLong asked → ⊥) × IsSendable asked
IsFit WhoIs = Unit {0}
IsFit Nothing = Unit {0}

-- ---- its word

-- what it tells of its restart
abbrev pub after_restart : DeviceState → (restart : List ℕ) → (moment : DateTime) → Turned
after_restart p restart moment =
    asks (record p { stage = Revision; told = record p.told { restart = restart; moment = moment } }) []

-- its Database_Revision
abbrev pub after_revision : DeviceState → Option ℕ → Turned
after_revision p revision = clocks (record p { told = record p.told { revision = revision } })

-- ---- what an answer makes of it

-- what an answer is to what is asked
abbrev pub verdict_to : Question → Option Apdu → Verdict
verdict_to (Confirmed request) apdu = verdict_of request apdu
verdict_to WhoIs apdu = BadReply
verdict_to Nothing apdu = BadReply

-- An answer with this verdict, by what it is for, at this moment.
abbrev pub Answers : DeviceState → Stage → Verdict → List ℕ → (now : CivilTime) → Turned → Type 0
Answers p Instance v datagram now t = t ≡ after_instance p (own_device (object_of (told_by v datagram)))
Answers p IAm v datagram now t = t ≡ asks p []
Answers p Name v datagram now t = (name : Option (List ℕ)) × IsText (value_by v datagram) name × (t ≡ after_name p name)
Answers p Restart v datagram now t =
    t ≡ after_restart p (restart_of (told_by v datagram)) (moment_of (told_by v datagram))
Answers p Revision v datagram now t = t ≡ after_revision p (number_of (value_by v datagram))
Answers p Date v datagram now t = t ≡ after_date p (date_of (value_by v datagram))
Answers p (Time date) v datagram now t =
    (offset : Option Offset) × IsOffset date (time_of (value_by v datagram)) now offset × (t ≡ after_clock p offset)
Answers p Objects v datagram now t = t ≡ after_objects p v (objects_of (told_by v datagram))
Answers p Count v datagram now t = t ≡ after_count p v (number_of (value_by v datagram))
Answers p (Element index count) v datagram now t = t ≡ after_element p index count v (object_of (told_by v datagram))
Answers p (LogName log) v datagram now t =
    (name : Option (List ℕ)) × IsText (value_by v datagram) name × (t ≡ after_log_name p log name)
Answers p (Source log) v datagram now t = t ≡ after_source p log (source_of (told_by v datagram))
Answers p (Units log) v datagram now t = t ≡ after_units p log (enumerated_of (value_by v datagram))
Answers p (Description log) v datagram now t =
    (text : Option (List ℕ)) × IsText (value_by v datagram) text × (t ≡ after_description p log text)
Answers p Log v datagram now t = t ≡ after_log p v datagram
Answers p Between v datagram now t = t ≡ asks p []
Answers p Ended v datagram now t = t ≡ asks p []

-- a device that answers
abbrev pub answered : DeviceState → DeviceState
answered p = record p { busy = 0; doubt = false }

-- one that is busy is asked again, as often as one that doesn't answer
abbrev pub later : DeviceState → Turned
later p = record (asks (record p { busy = p.busy + 1; doubt = false }) []) { step = AskLater }

-- An answer to its question.
abbrev pub Takes : DeviceState → List ℕ → (now : CivilTime) → Turned → Type 0
Takes p datagram now t =
    let v : Verdict = verdict_to (asked_of_device p) (apdu_in datagram) in
    MatchBool (is_busy v && nat_lt p.busy p.retries)
    (t ≡ later p)
    (Answers (answered p) p.stage v datagram now t)

-- ---- its beginning

-- A device of which this is on record, whose logs are polled in this order, each to its end.
abbrev pub fresh : Known → List LogAs → (many : ℕ) → (retries : ℕ) → (clock : Bool) → DeviceState
fresh known logs many retries clock = record {
  stage = Instance;
  who = known.who;
  told = nothing_told;
  revision = known.revision;
  whole = known.whole;
  clock = clock;
  others = known.others;
  stopped = known.stopped.items;
  many = many;
  retries = retries;
  steps = None;
  busy = 0;
  doubt = false;
  read = not known.whole;
  objects = [];
  unnamed = [];
  naming = unnamed;
  polled = None;
  logs = logs;
}

-- The same device, each of whose logs has so many replies with records in this run, one at least.
abbrev pub with_steps : Option ℕ → DeviceState → DeviceState
with_steps steps p = record p { steps = option_map (λ (n : ℕ). max n 1) steps }
