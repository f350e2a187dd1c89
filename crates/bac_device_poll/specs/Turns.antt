-- What an answer makes of a device's poll.
use Rattle.std.specs.Prelude.{List, [], ◌++◌, map, Option, None, Some}
use Rattle.bac_poll.specs.Turns.{Turned as LogTurned, turned as log_turned}
use Rattle.bac_poll_steps.specs.declared.turn.Turn.{Turn as LogTurn}
use Rattle.bac_device_poll.specs.State.{DeviceState, LogAs}
use Rattle.bac_answers.specs.declared.entry.Entry.{Entry}
use Rattle.bac_answers.specs.declared.entry.Entry.TheVariants.{NotAsked}
use Rattle.bac_device_poll.specs.declared.stage.Stage.TheVariants.{Ended}
use Rattle.bac_device_poll.specs.declared.task.Polled.{Polled}
use Rattle.bac_device_poll.specs.declared.turn.DeviceEnd.{DeviceEnd}
use Rattle.bac_device_poll.specs.declared.turn.Step.{Step}
use Rattle.bac_device_poll.specs.declared.turn.Step.TheVariants.{Ask, End}
use Rattle.bac_device_poll.specs.declared.turn.Turn.{Turn}

-- What an answer makes of a device's poll, and what it brings.
pub record Turned : Type 0 where
  pub device : DeviceState  -- what is known of the device then
  pub entries : List Entry  -- what is put on record of it, or told, in this order
  pub log : Option LogTurned  -- what comes of the log that is polled
  pub step : Step  -- how it goes on

-- what comes of the log that is polled
abbrev pub of_log : Option LogTurn → Option Polled → Option LogTurned
of_log None polled = None
of_log (Some turn) None = None
of_log (Some turn) (Some q) = Some (log_turned q.poll turn)

-- a turn of the code
abbrev pub turned : DeviceState → Turn → Turned
turned p t = record { device = p; entries = t.entries.items; log = of_log t.log p.polled; step = t.step }

-- the next question is asked
abbrev pub asks : DeviceState → List Entry → Turned
asks p entries = record { device = p; entries = entries; log = None; step = Ask }

-- a log that isn't asked
abbrev pub not_asked : LogAs → Entry
not_asked task = NotAsked task.log

-- nothing more is asked of it, and of each log that waits it is told so
abbrev pub leaves : DeviceState → List Entry → DeviceEnd → Turned
leaves p entries why = record {
  device = record p { stage = Ended; logs = [] };
  entries = entries ++ map not_asked p.logs;
  log = None;
  step = End why;
}
