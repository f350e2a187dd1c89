-- What the status of a device's poll says, whoever answers. Read `StatusIsTold` and `LogsAreCounted`.
use Rattle.std.specs.Prelude.{◌≡◌, ◌⊎◌, ◌<◌, ◌≤◌, min, false, List, Option, None, Some}
use Rattle.std.specs.List.{Contains}
use Rattle.bac_archive.specs.declared.row.Put.{Put}
use Rattle.bac_poll.specs.Turns.{Turned as LogTurned}
use Rattle.bac_device_poll.specs.Turns.{Turned}
use Rattle.bac_device_poll.specs.declared.task.Polled.{Polled}
use Rattle.bac_device_poll.specs.declared.turn.DeviceEnd.{DeviceEnd}
use Rattle.bac_drive.specs.declared.machine.Next.{Next}
use Rattle.bac_device_poller.specs.Entries.{log_in}
use Rattle.bac_device_poller.specs.Poller.{GivesBy, PollerAs, Settles}
use Rattle.bac_device_poller.specs.Rows.{LogAs}
use Rattle.bac_device_poller.specs.Status.{code, status_at, status_of}
use Rattle.bac_device_poller.specs.Telling.{LineAs}
use Rattle.bac_device_poller.specs.Turns.{ended_by}
use Rattle.bac_device_poller.specs.declared.doing.Doing.{Doing}
use Rattle.bac_device_poller.specs.declared.doing.Doing.TheVariants as doing
use Rattle.bac_device_poller.specs.declared.ending.Ending.{Ending}
use Rattle.bac_device_poller.specs.declared.status.Status.{Status}
use Rattle.bac_device_poller.specs.declared.status.Status.TheVariants.{Done, File}

-- one of these lines goes to the errors
abbrev pub HasWarning : List LineAs → Type 0
HasWarning lines = (line : LineAs) × Contains lines line × (line.good ≡ false)

-- the status of why nothing more is asked, if nothing is
abbrev pub end_status : Option DeviceEnd → Status
end_status None = Done
end_status (Some why) = status_at why

-- the same of what a poll is at
abbrev pub left_status : Doing → Status
left_status (doing.Tells end) = end_status end
left_status (doing.Ended why) = status_at why
left_status doing.Asks = Done
left_status (doing.Resends datagram) = Done
left_status doing.Waits = Done
left_status (doing.Hears came) = Done
left_status doing.Loses = Done

-- what holds of the status of a poll that was the first of these, and is the second
pub record RisesAsTold (p q : PollerAs) : Type 0 where
  pub grows : code p.rows.status ≤ code q.rows.status  -- it never falls
  -- it is another one only as a line goes to the errors, or as the device is left, which is silent or another one
  pub told : (q.rows.status ≡ p.rows.status) ⊎ (HasWarning q.rows.lines ⊎ (0 < code (left_status q.doing)))
  -- and of such a device it is no less than that of why
  pub counts : code (left_status p.doing) ≤ code p.rows.status → code (left_status q.doing) ≤ code q.rows.status

-- So is the status behind all that the poll of a device wants.
abbrev pub StatusIsTold : Type 0
StatusIsTold = (p q : PollerAs) (wanted : Next) → GivesBy p.doing p wanted q → RisesAsTold p q

-- A log that is on record, and whose poll ends so, leaves no less than the status of that; one that has no epoch left,
-- no less than that of this.
abbrev pub LogsAreCounted : Type 0
LogsAreCounted = (t : Turned) (p q : PollerAs) (puts : List Put) (u : LogTurned) (why : Ending) (polled : Polled)
    (l : LogAs) → Settles t p puts q → t.log ≡ Some u → t.device.polled ≡ Some polled →
    ended_by u.end polled.left ≡ Some why → log_in polled.log p.rows.logs ≡ Some l →
    min (code (status_of why)) (code File) ≤ code q.rows.status
