-- A router has no route to the network of a device (clause 6.4.4).
use Rattle.std.specs.Prelude.{[], ◌∷◌, Option, None, Some}
use Rattle.bac_walk.specs.declared.outcome.WalkFault.TheVariants as walk
use Rattle.bac_poll.specs.Turns.{Turned as LogTurned, ends}
use Rattle.bac_poll_steps.specs.declared.turn.PollEnd.TheVariants.{Fault}
use Rattle.bac_answers.specs.declared.entry.Entry.TheVariants.{Rejected}
use Rattle.bac_answers.specs.declared.reject.NoRoute.{NoRoute}
use Rattle.bac_device_poll.specs.State.{DeviceState}
use Rattle.bac_device_poll.specs.Turns.{Turned, leaves}
use Rattle.bac_device_poll.specs.declared.task.Polled.{Polled}
use Rattle.bac_device_poll.specs.declared.turn.DeviceEnd.TheVariants.{Unreached}
pub use Rattle.bac_answers.specs.Rejects.{reject_by}

-- the log that is polled, if one is, is lost
abbrev pub lost_log : Option Polled → Option LogTurned
lost_log None = None
lost_log (Some q) = Some (ends q.poll (Fault walk.Lost))

-- Nothing more is asked of it.
abbrev pub after_reject : DeviceState → NoRoute → Turned
after_reject p reject = record (leaves p (Rejected reject ∷ []) Unreached) { log = lost_log p.polled }
