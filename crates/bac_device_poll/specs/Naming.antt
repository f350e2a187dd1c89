-- What the logs of a device are: name, source, units and description (clauses 12.25 and 12.1.5).
use Rattle.std.specs.Prelude.{ℕ, if◌then◌else◌, List, [], ◌∷◌, ◌++◌, map}
use Rattle.std.specs.Prelude.{Option}
use Rattle.bac_wire.specs.Primitive.{Id}
use Rattle.bac_device_poll.specs.Logs.{begins}
use Rattle.bac_device_poll.specs.State.{DeviceState, LogAs}
use Rattle.bac_device_poll.specs.Turns.{Turned, asks}
use Rattle.bac_answers.specs.declared.entry.Entry.{Entry}
use Rattle.bac_answers.specs.declared.entry.Entry.TheVariants.{Named}
use Rattle.bac_answers.specs.declared.entry.Reference.{Reference}
use Rattle.bac_device_poll.specs.declared.stage.Stage.TheVariants.{Description, LogName, Source, Units}
pub use Rattle.bac_answers.specs.Naming.{is_other, is_changed, read_at, unnamed, is_of, is_own, subject}

-- ---- whether the device was changed

-- none, as long as its list isn't read, or a question what a log is was lost
abbrev pub told_read : DeviceState → List Entry
told_read p = if p.read then read_at p.revision p.told.revision else []

-- ---- one log behind the other

-- the first of these logs is asked what it is; behind the last they are polled
abbrev pub names_with : DeviceState → List Id → List Entry → Turned
names_with p [] entries = begins p (entries ++ told_read p)
names_with p (log ∷ logs) entries =
    asks (record p { stage = LogName log; naming = unnamed; unnamed = logs }) entries

-- The next log whose name is still to be asked for, if there is one.
abbrev pub names_next : DeviceState → List Entry → Turned
names_next p entries = names_with p p.unnamed entries

-- Those that are new are asked what they are; all of them where the device was changed.
abbrev pub names : DeviceState → List Entry → Turned
names p entries =
    if is_changed p.revision p.told.revision
    then names_next (record p { unnamed = map (λ (t : LogAs). t.log) p.logs }) entries
    else names_next p entries

-- ---- what each answer makes of it

-- its Object_Name, if it tells one
abbrev pub after_log_name : DeviceState → Id → Option (List ℕ) → Turned
after_log_name p log name =
    asks (record p { stage = Source log; naming = record p.naming { name = name } }) []

-- what it logs: its Log_DeviceObjectProperty
abbrev pub after_source : DeviceState → Id → Option Reference → Turned
after_source p log source =
    asks (record p { stage = Units log; naming = record p.naming { source = source } }) []

-- the units of that
abbrev pub after_units : DeviceState → Id → Option ℕ → Turned
after_units p log units =
    asks (record p { stage = Description log; naming = record p.naming { units = units } }) []

-- the log is on record by what was told of it
abbrev pub after_description : DeviceState → Id → Option (List ℕ) → Turned
after_description p log description =
    names_next (record p { naming = unnamed }) (Named log (record p.naming { description = description }) ∷ [])
