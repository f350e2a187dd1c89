-- No answer to a question. Read `after_loss`.
use Rattle.std.specs.Prelude.{◌&&◌, not, Bool, true, false, if◌then◌else◌, [], Option, None, Some}
use Rattle.bac_walk.specs.declared.outcome.WalkFault.TheVariants.{Lost}
use Rattle.bac_poll.specs.DateTime.{undated}
use Rattle.bac_device_poll.specs.Clock.{after_clock, after_date}
use Rattle.bac_device_poll.specs.Listing.{unlisted}
use Rattle.bac_device_poll.specs.Logs.{lost}
use Rattle.bac_device_poll.specs.Naming.{after_description, after_log_name, after_units}
use Rattle.bac_device_poll.specs.Poll.{after_restart, after_revision}
use Rattle.bac_device_poll.specs.State.{DeviceState}
use Rattle.bac_device_poll.specs.Turns.{Turned, asks, leaves}
use Rattle.bac_device_poll.specs.declared.stage.Stage.{Stage}
use Rattle.bac_device_poll.specs.declared.stage.Stage.TheVariants.{Between, Count, Date, Description, Element, Ended}
use Rattle.bac_device_poll.specs.declared.stage.Stage.TheVariants.{IAm, Instance, Log, LogName, Name, Objects}
use Rattle.bac_device_poll.specs.declared.stage.Stage.TheVariants.{Restart, Revision, Source, Time, Units}
use Rattle.bac_device_poll.specs.declared.task.Polled.{Polled}
use Rattle.bac_device_poll.specs.declared.turn.DeviceEnd.TheVariants.{Silent}

-- no revision is put on record, so that the next run asks again
abbrev pub unread : DeviceState → DeviceState
unread p = record p { read = false }

-- What a question that isn't answered asks for is unknown, as if it was refused; a list that isn't told whole is asked
-- for by index. What a log is stays as it is on record; where that is what it logs, so do the units and the description
-- of that. A device that doesn't answer who it is, is silent.
abbrev pub passed_over : Stage → DeviceState → Turned
passed_over Restart p = after_restart p [] undated
passed_over Revision p = after_revision p None
passed_over Date p = after_date p None
passed_over (Time date) p = after_clock p None
passed_over Objects p = asks (record p { stage = Count }) []
passed_over Count p = unlisted p Lost
passed_over (Element index count) p = unlisted p Lost
passed_over (LogName log) p = after_log_name (unread p) log None
passed_over (Source log) p = after_description (unread p) log None
passed_over (Units log) p = after_units (unread p) log None
passed_over (Description log) p = after_description (unread p) log None
passed_over Instance p = leaves p [] Silent
passed_over IAm p = leaves p [] Silent
passed_over Name p = leaves p [] Silent
passed_over Log p = leaves p [] Silent
passed_over Between p = leaves p [] Silent
passed_over Ended p = leaves p [] Silent

-- how many elements its list has is asked
abbrev pub is_count : Stage → Bool
is_count Count = true
is_count Instance = false
is_count IAm = false
is_count Name = false
is_count Restart = false
is_count Revision = false
is_count Date = false
is_count (Time date) = false
is_count Objects = false
is_count (Element index count) = false
is_count (LogName log) = false
is_count (Source log) = false
is_count (Units log) = false
is_count (Description log) = false
is_count Log = false
is_count Between = false
is_count Ended = false

-- the question before wasn't answered either; the list and how many elements it has are one question
abbrev pub is_last : DeviceState → Bool
is_last p = p.doubt && not (is_count p.stage)

-- Behind a question that isn't answered the next one is sent once. If that isn't answered either, the device is silent.
abbrev pub unanswered : DeviceState → Turned
unanswered p = if is_last p then leaves p [] Silent else passed_over p.stage (record p { doubt = true })

-- the log that is polled, or a question before that
abbrev pub loss_at : DeviceState → Option Polled → Turned
loss_at p None = unanswered p
loss_at p (Some q) = lost p q

-- No answer came, to any send.
abbrev pub after_loss : DeviceState → Turned
after_loss p = loss_at p p.polled
