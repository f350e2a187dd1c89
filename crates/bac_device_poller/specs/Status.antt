-- The status that a poll leaves. Read `status_of` and `status_at`.
use Rattle.std.specs.Prelude.{ℕ, nat_lt, if◌then◌else◌}
use Rattle.bac_walk.specs.declared.outcome.WalkFault.TheVariants as walk
use Rattle.bac_poll_steps.specs.declared.turn.PollEnd.TheVariants.{CaughtUp, Contradicts, Fault, NoneByNumber}
use Rattle.bac_poll_steps.specs.declared.turn.PollEnd.TheVariants.{SaysMore, ShowsNone}
use Rattle.bac_device_poll.specs.declared.turn.DeviceEnd.{DeviceEnd}
use Rattle.bac_device_poll.specs.declared.turn.DeviceEnd.TheVariants as end
use Rattle.bac_device_poller.specs.declared.ending.Ending.{Ending}
use Rattle.bac_device_poller.specs.declared.ending.Ending.TheVariants.{Epochs, NotAsked, Poll, StepLimit as AtLimit}
use Rattle.bac_device_poller.specs.declared.status.Status.{Status}
use Rattle.bac_device_poller.specs.declared.status.Status.TheVariants.{BadReply, Done, File, NoReply, Refused}
use Rattle.bac_device_poller.specs.declared.status.Status.TheVariants.{StepLimit}

-- a status, as a program ends with it
abbrev pub code : Status → ℕ
code Done = 0
code NoReply = 2
code Refused = 3
code BadReply = 4
code File = 6
code StepLimit = 8

-- the greater one of two
abbrev pub greater_of : Status → Status → Status
greater_of a b = if nat_lt (code a) (code b) then b else a

-- how the poll of a log ended
abbrev pub status_of : Ending → Status
status_of (Poll CaughtUp) = Done
status_of (Poll SaysMore) = BadReply
status_of (Poll ShowsNone) = Refused
status_of (Poll NoneByNumber) = BadReply
status_of (Poll Contradicts) = BadReply
status_of (Poll (Fault walk.Lost)) = NoReply
status_of (Poll (Fault (walk.Refused refusal))) = Refused
status_of (Poll (Fault walk.BadReply)) = BadReply
status_of AtLimit = StepLimit
status_of Epochs = File
status_of NotAsked = NoReply

-- why nothing more is asked of a device
abbrev pub status_at : DeviceEnd → Status
status_at end.Done = Done
status_at end.Foreign = Refused
status_at end.Silent = NoReply
status_at end.Unreached = NoReply
