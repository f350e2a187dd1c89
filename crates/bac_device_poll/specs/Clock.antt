-- The clock of a device (clause 12.11).
use Rattle.std.specs.Prelude.{if◌then◌else◌, [], ◌∷◌, Option, None, Some}
use Rattle.bac_wire.specs.declared.stamp.Date4.{Date4}
use Rattle.bac_device_poll.specs.Listing.{lists}
use Rattle.bac_device_poll.specs.State.{DeviceState}
use Rattle.bac_device_poll.specs.Turns.{Turned, asks}
use Rattle.bac_answers.specs.declared.entry.Entry.TheVariants.{Clock}
use Rattle.bac_answers.specs.declared.entry.Offset.{Offset}
use Rattle.bac_device_poll.specs.declared.stage.Stage.TheVariants.{Date, Time}
pub use Rattle.bac_answers.specs.Clock.{shown, seconds_of, AreApart, IsOffset}

-- the offset is known, or that it tells none
abbrev pub after_clock : DeviceState → Option Offset → Turned
after_clock p offset = lists p (Clock offset ∷ [])

-- its Local_Date
abbrev pub after_date : DeviceState → Option Date4 → Turned
after_date p None = after_clock p None
after_date p (Some date) = asks (record p { stage = Time date }) []

-- its clock is asked for once a day
abbrev pub clocks : DeviceState → Turned
clocks p = if p.clock then asks (record p { stage = Date }) [] else lists p []
