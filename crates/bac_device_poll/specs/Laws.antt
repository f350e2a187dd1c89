-- What holds of a device's poll, whoever answers.
use Rattle.std.specs.Prelude.{◌≡◌, ◌≢◌, ◌⊎◌, ℕ, ◌<◌, ◌&&◌, nat_lt, Bool, true, false, MatchBool, List, []}
use Rattle.std.specs.Prelude.{◌∷◌, ◌++◌, count_by, map, Option, None, Some}
use Rattle.std.specs.List.{flat_map}
use Rattle.bac_wire.specs.Primitive.{Id}
use Rattle.bac_wire.specs.Stamp.{CivilTime}
use Rattle.bac_link.specs.Datagrams.{apdu_in}
use Rattle.bac_link.specs.declared.exchanges.Refusal.{Refusal}
use Rattle.bac_link.specs.declared.exchanges.Verdict.TheVariants.{Refused}
use Rattle.bac_link.specs.declared.request.Request.TheVariants as request
use Rattle.bac_poll.specs.DateTime.{undated}
use Rattle.bac_poll.specs.State.{ToldAs}
use Rattle.bac_poll.specs.Turns.{Turned as LogTurned, ends}
use Rattle.bac_poll_steps.specs.declared.turn.PollEnd.TheVariants.{Fault}
use Rattle.bac_walk.specs.declared.batch.Numbered.{Numbered}
use Rattle.bac_walk.specs.declared.outcome.WalkFault.TheVariants as walk
use Rattle.bac_device_poll.specs.Identity.{after_i_am, after_instance, after_name}
use Rattle.bac_device_poll.specs.Logs.{after_end, halved, has_ended, is_records, is_too_many, left_behind}
use Rattle.bac_device_poll.specs.Logs.{wanted_at}
use Rattle.bac_device_poll.specs.Loss.{after_loss, unread}
use Rattle.bac_device_poll.specs.Poll.{Takes, answered, asked_of_device, fresh, later, verdict_to, with_steps}
use Rattle.bac_device_poll.specs.Refusals.{is_passing}
use Rattle.bac_device_poll.specs.Rejects.{after_reject}
use Rattle.bac_device_poll.specs.State.{DeviceState, LogAs}
use Rattle.bac_device_poll.specs.Turns.{Turned, asks, leaves, not_asked}
use Rattle.bac_answers.specs.declared.entry.Entry.{Entry}
use Rattle.bac_answers.specs.declared.entry.Entry.TheVariants as entry
use Rattle.bac_answers.specs.declared.entry.Naming.{Naming}
use Rattle.bac_answers.specs.declared.reject.NoRoute.{NoRoute}
use Rattle.bac_device_poll.specs.declared.poll.Known.{Known}
use Rattle.bac_device_poll.specs.declared.question.Question.{Question}
use Rattle.bac_device_poll.specs.declared.question.Question.TheVariants.{Confirmed, Nothing, WhoIs}
use Rattle.bac_device_poll.specs.declared.stage.Stage.{Stage}
use Rattle.bac_device_poll.specs.declared.stage.Stage.TheVariants as stage
use Rattle.bac_device_poll.specs.declared.task.Polled.{Polled}
use Rattle.bac_device_poll.specs.declared.turn.DeviceEnd.TheVariants.{Foreign, Silent, Unreached}
use Rattle.bac_device_poll.specs.declared.turn.Step.TheVariants.{End}
use Rattle.bac_answers.specs.declared.who.Who.{Who}
use Rattle.bac_answers.specs.declared.who.Who.TheVariants.{Address, Device, Name}

-- ---- what is asked

-- a question that changes nothing at the device: ReadProperty, ReadRange or Who-Is
abbrev pub IsReading : Question → Type 0
IsReading (Confirmed (request.ReadProperty asked)) = Unit {0}
IsReading (Confirmed (request.WriteProperty asked)) = ⊥
IsReading (Confirmed (request.ReadRange asked)) = Unit {0}
IsReading WhoIs = Unit {0}
IsReading Nothing = Unit {0}

-- A device is asked for nothing else.
abbrev pub AsksReadings : Type 0
AsksReadings = (p : DeviceState) → IsReading (asked_of_device p)

-- ---- another device

-- whether an entry is put on record; else it is told
abbrev pub is_put : Entry → Bool
is_put (entry.Another who) = false
is_put entry.Untold = false
is_put (entry.Rejected reject) = false
is_put (entry.Unlisted why) = false
is_put (entry.Others others) = false
is_put (entry.NotAsked log) = false
is_put other = true

-- One that is known by its instance, or by its name, where another instance, another name or none is told now.
abbrev pub IsForeign : (was : Who) → (now : Who) → Type 0
IsForeign (Device was) (Device now) = was.instance ≢ now.instance
IsForeign (Device was) (Name now) = Unit {0}
IsForeign (Device was) Address = Unit {0}
IsForeign (Name was) (Device now) = ⊥
IsForeign (Name was) (Name now) = was ≢ now
IsForeign (Name was) Address = Unit {0}
IsForeign Address now = ⊥

-- none of these entries is put on record
abbrev pub PutsNone : List Entry → Type 0
PutsNone [] = Unit {0}
PutsNone (e ∷ entries) = (is_put e ≡ false) × PutsNone entries

-- nothing is put on record, and nothing more is asked
pub record IsLeft (t : Turned) : Type 0 where
  pub told : PutsNone t.entries
  pub records : t.log ≡ None
  pub ended : t.step ≡ End Foreign
  pub unasked : asked_of_device t.device ≡ Nothing
  pub logs : t.device.logs ≡ []

-- Nothing of a device that isn't the one on record is kept: whoever it says that it is.
abbrev pub KeepsNoOther : Type 0
KeepsNoOther =
    (p : DeviceState) (was : Who) → p.who ≡ Some was →
    ((device : Id) → IsForeign was (Device device) →
    IsLeft (after_instance p (Some device)) × IsLeft (after_i_am p (Some device)))
    × ((name : List ℕ) → IsForeign was (Name name) → IsLeft (after_name p (Some name)))
    × (IsForeign was Address → IsLeft (after_name p None))

-- ---- each log is polled, or told why it isn't

-- the log that is polled
abbrev pub at_stage : Stage → Option Polled → List Id
at_stage stage.Log (Some q) = q.log ∷ []
at_stage other polled = []

-- the logs of a device that wait
abbrev pub waiting : DeviceState → List Id
waiting p = map (λ (t : LogAs). t.log) p.logs

-- the logs that are still polled, the one that is polled now first
abbrev pub left : DeviceState → List Id
left p = at_stage p.stage p.polled ++ waiting p

-- a log, if its poll has ended
abbrev pub ended_by : Bool → Id → List Id
ended_by false log = []
ended_by true log = log ∷ []

-- the one that is polled, if its turn ends it
abbrev pub ended_in : Option LogTurned → Option Polled → List Id
ended_in None polled = []
ended_in (Some t) None = []
ended_in (Some t) (Some q) = ended_by (has_ended t.end (left_behind q.left t.records)) q.log

-- a log that is told as not asked
abbrev pub not_asked_by : Entry → List Id
not_asked_by (entry.NotAsked log) = log ∷ []
not_asked_by other = []

-- those of these entries
abbrev pub not_asked_in : List Entry → List Id
not_asked_in entries = flat_map not_asked_by entries

-- a log that is new
abbrev pub added_by : Entry → List Id
added_by (entry.Added log) = log ∷ []
added_by other = []

-- those of these entries
abbrev pub added_in : List Entry → List Id
added_in entries = flat_map added_by entries

-- a router has no route to its network
abbrev pub IsRejected : DeviceState → Turned → Type 0
IsRejected p t = (reject : NoRoute) × (t ≡ after_reject p reject)

-- an answer to a request comes, or none to any send
abbrev pub IsHeard : DeviceState → Turned → Type 0
IsHeard p t = ((datagram : List ℕ) × (now : CivilTime) × Takes p datagram now t) ⊎ (t ≡ after_loss p)

-- what may come of what is asked: an answer to a request, or none to any send; an I-Am, or none to the Who-Is; a
-- rejection; and the next log, where the poll of one has ended
abbrev pub ComesAt : Stage → DeviceState → Turned → Type 0
ComesAt stage.IAm p t = ((device : Option Id) × (t ≡ after_i_am p device)) ⊎ IsRejected p t
ComesAt stage.Between p t = t ≡ after_end p
ComesAt stage.Ended p t = ⊥
ComesAt other p t = IsHeard p t ⊎ IsRejected p t

-- it comes, one after the other
abbrev pub Runs : DeviceState → List Turned → Type 0
Runs p [] = Unit {0}
Runs p (t ∷ turns) = ComesAt p.stage p t × Runs t.device turns

-- what is known of the device then
abbrev pub behind : DeviceState → List Turned → DeviceState
behind p [] = p
behind p (t ∷ turns) = behind t.device turns

-- the logs whose polls ended meanwhile, and those that were told as not asked, in their order
abbrev pub settled : DeviceState → List Turned → List Id
settled p [] = []
settled p (t ∷ turns) = (ended_in t.log p.polled ++ not_asked_in t.entries) ++ settled t.device turns

-- the logs that were found
abbrev pub found_in : List Turned → List Id
found_in turns = flat_map (λ (t : Turned). added_in t.entries) turns

-- No log is left out, whatever comes: at each moment those that are settled, and behind them those that are still
-- polled, are the logs of the device with those that were found behind them, each as often; and at the end none is
-- still polled.
abbrev pub NoneLeftOut : Type 0
NoneLeftOut =
    (known : Known) (logs : List LogAs) (many retries : ℕ) (clock : Bool) (steps : Option ℕ) (turns : List Turned) →
    let p : DeviceState = with_steps steps (fresh known logs many retries clock) in
    Runs p turns →
    (settled p turns ++ left (behind p turns) ≡ waiting p ++ found_in turns)
    × ((behind p turns).stage ≡ stage.Ended → left (behind p turns) ≡ [])

-- ---- how many replies with records a log has in a run

-- there are records
abbrev pub has_records : List Numbered → Bool
has_records [] = false
has_records (first ∷ others) = true

-- the log that is polled brings some, if it has a turn
abbrev pub brings_in : Option LogTurned → Bool
brings_in None = false
brings_in (Some t) = has_records t.records

-- it does with this turn
abbrev pub brings : Turned → Bool
brings t = brings_in t.log

-- the same log is polled still behind each of these
abbrev pub AreStill : List Turned → Type 0
AreStill [] = Unit {0}
AreStill (t ∷ turns) = (t.device.stage ≡ stage.Log) × AreStill turns

-- A log has no more replies with records in a run than it may: as long as it is polled still, fewer came, whatever else
-- did; so with the last one its poll ends.
abbrev pub StepsAreCounted : Type 0
StepsAreCounted =
    (p : DeviceState) (q : Polled) (n : ℕ) (turns : List Turned) →
    p.stage ≡ stage.Log → p.polled ≡ Some q → q.left ≡ Some n → 0 < n → Runs p turns → AreStill turns →
    count_by brings turns < n

-- ---- a refusal ends what was asked, and nothing else

-- the word of a device, without what was asked for
abbrev pub untold : Stage → ToldAs → ToldAs
untold stage.Restart told = record told { restart = []; moment = undated }
untold stage.Revision told = record told { revision = None }
untold other told = told

-- what a log is, without that
abbrev pub unknown : Stage → Naming → Naming
unknown (stage.LogName log) naming = record naming { name = None }
unknown (stage.Source log) naming = record naming { source = None }
unknown (stage.Units log) naming = record naming { units = None }
unknown (stage.Description log) naming = record naming { description = None }
unknown other naming = naming

-- that stays known; behind its last property the log is on record by it
abbrev pub IsKnownStill : Stage → Naming → Turned → Type 0
IsKnownStill (stage.LogName log) naming t = t.device.naming ≡ naming
IsKnownStill (stage.Source log) naming t = t.device.naming ≡ naming
IsKnownStill (stage.Units log) naming t = t.device.naming ≡ naming
IsKnownStill (stage.Description log) naming t =
    (others : List Entry) × (t.entries ≡ entry.Named log naming ∷ others)
IsKnownStill other naming t = Unit {0}

-- A property is refused: it stays unknown. All else that is known of the device stays as it is, but for what is asked
-- next and of which logs that is still to be asked; each log that waits is polled still, and no other.
pub record StaysUnknown (s : Stage) (p : DeviceState) (t : Turned) : Type 0 where
  pub device : t.device ≡ record p {
    stage = t.device.stage;
    told = untold s p.told;
    objects = t.device.objects;
    unnamed = t.device.unnamed;
    naming = t.device.naming;
    polled = t.device.polled;
    logs = t.device.logs;
  }
  pub naming : IsKnownStill s (unknown s p.naming) t
  pub logs : left t.device ≡ waiting p
  pub told : not_asked_in t.entries ++ added_in t.entries ≡ []
  pub records : t.log ≡ None

-- A log is refused: its own poll goes on or ends, and all else stays as it is. If records are refused, and not for
-- their number, it ends by that.
pub record EndsLog (p : DeviceState) (q : Polled) (r : Refusal) (t : Turned) : Type 0 where
  pub device : t.device ≡
      record p { stage = t.device.stage; many = t.device.many; polled = t.device.polled }
  pub entries : t.entries ≡ []
  pub log : is_records (wanted_at q.poll.stage) ≡ true → is_too_many q.poll (Refused r) ≡ false →
      t.log ≡ Some (ends q.poll (Fault (walk.Refused r)))
  pub fewer : is_too_many q.poll (Refused r) ≡ true → t ≡ halved p q

-- by what was asked; one that isn't known yet is asked by other means who it is
abbrev pub RefusedAt : Stage → DeviceState → Refusal → Turned → Type 0
RefusedAt stage.Instance p r t = t ≡ asks (record p { stage = stage.IAm }) []
RefusedAt stage.Name p r t = t ≡ after_name p None
RefusedAt stage.Log p r t = (q : Polled) → p.polled ≡ Some q → EndsLog p q r t
RefusedAt stage.IAm p r t = Unit {0}
RefusedAt stage.Between p r t = Unit {0}
RefusedAt stage.Ended p r t = Unit {0}
RefusedAt other p r t = StaysUnknown other p t

-- A refusal that passes is asked again behind the other devices, as often as what is lost; any other ends what was
-- asked, and nothing else.
abbrev pub RefusalsEndOne : Type 0
RefusalsEndOne =
    (p : DeviceState) (r : Refusal) (datagram : List ℕ) (now : CivilTime) (t : Turned) →
    verdict_to (asked_of_device p) (apdu_in datagram) ≡ Refused r → Takes p datagram now t →
    MatchBool (is_passing r && nat_lt p.busy p.retries) (t ≡ later p) (RefusedAt p.stage (answered p) r t)

-- ---- a question that isn't answered ends what was asked, and nothing else

-- by what was asked: a device that doesn't tell who it is, is silent; one that doesn't tell what a log is, isn't read
-- at its revision, and where that is what it logs, the log is on record by its name
abbrev pub LostAt : Stage → DeviceState → Turned → Type 0
LostAt stage.Instance p t = t ≡ leaves p [] Silent
LostAt stage.Name p t = t ≡ leaves p [] Silent
LostAt stage.IAm p t = Unit {0}
LostAt stage.Log p t = Unit {0}
LostAt stage.Between p t = Unit {0}
LostAt stage.Ended p t = Unit {0}
LostAt (stage.LogName log) p t = StaysUnknown (stage.LogName log) (unread p) t
LostAt (stage.Source log) p t = StaysUnknown (stage.Description log) (unread p) t
LostAt (stage.Units log) p t = StaysUnknown (stage.Units log) (unread p) t
LostAt (stage.Description log) p t = StaysUnknown (stage.Description log) (unread p) t
LostAt other p t = StaysUnknown other p t

-- Before the logs of a device are polled, a question that isn't answered ends what was asked, and nothing else, as a
-- refusal does; the next one is sent once. Where that isn't answered either, the device is silent; but its whole list
-- and how many elements that has are one question.
abbrev pub LossesEndOne : Type 0
LossesEndOne =
    (p : DeviceState) → p.polled ≡ None →
    ((p.doubt ≡ false) ⊎ (p.stage ≡ stage.Count) → LostAt p.stage (record p { doubt = true }) (after_loss p))
    × (p.doubt ≡ true → p.stage ≢ stage.Count → after_loss p ≡ leaves p [] Silent)

-- ---- what isn't answered is asked again in the next run

-- a Database_Revision that is put on record
abbrev pub read_by : Entry → List ℕ
read_by (entry.Read revision) = revision ∷ []
read_by other = []

-- those of these turns
abbrev pub read_in : List Turned → List ℕ
read_in turns = flat_map (λ (t : Turned). flat_map read_by t.entries) turns

-- what a log is, is asked
abbrev pub IsNaming : Stage → Type 0
IsNaming (stage.LogName log) = Unit {0}
IsNaming (stage.Source log) = Unit {0}
IsNaming (stage.Units log) = Unit {0}
IsNaming (stage.Description log) = Unit {0}
IsNaming other = ⊥

-- its list is asked for, by index
abbrev pub IsListing : Stage → Type 0
IsListing stage.Count = Unit {0}
IsListing (stage.Element index count) = Unit {0}
IsListing other = ⊥

-- Where no answer comes to what a log is, or to a list that is still to be read, no Database_Revision is put on record
-- in this run, whatever comes behind that: so the next run asks again.
abbrev pub AsksAgain : Type 0
AsksAgain =
    (p : DeviceState) (turns : List Turned) → p.polled ≡ None →
    IsNaming p.stage ⊎ (IsListing p.stage × (p.read ≡ false)) → Runs (after_loss p).device turns →
    read_in (after_loss p ∷ turns) ≡ []

-- ---- a rejection ends the poll

-- nothing is put on record, and nothing more is asked: the rejection is told, and each log that waits as not asked
pub record IsRejectedFor (reject : NoRoute) (p : DeviceState) (t : Turned) : Type 0 where
  pub told : t.entries ≡ entry.Rejected reject ∷ map not_asked p.logs
  pub unput : PutsNone t.entries
  pub ended : t.step ≡ End Unreached
  pub unasked : asked_of_device t.device ≡ Nothing
  pub logs : t.device.logs ≡ []

-- Where the router has no route to its network, the poll of a device ends at once.
abbrev pub RejectsEndOne : Type 0
RejectsEndOne = (p : DeviceState) (reject : NoRoute) → IsRejectedFor reject p (after_reject p reject)
