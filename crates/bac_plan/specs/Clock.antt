-- Whether the clock of a device is asked for. Read `asks_clock`.
use Rattle.std.specs.Prelude.{ℕ, ◌&&◌, not, Bool, false, List, take, Option, None, Some, String}
use Rattle.std.specs.declared.alloc.Global.{Global}
use Rattle.std.specs.Str.{bytes_eq}
use Rattle.std.specs.String.{string_bytes}
use Rattle.bac_wire.specs.Stamp.{CivilTime}
use Rattle.bac_archive.specs.declared.row.DeviceRow.{DeviceRow}
use Rattle.bac_device_poller.specs.Naming.{moment_text}
use Rattle.bac_plan.specs.declared.options.Options.{Options}

-- the day of a moment's text, YYYY-MM-DD
abbrev pub day_of : List ℕ → List ℕ
day_of text = take 10 text

-- a device answered last on the day of this moment, as its row tells
abbrev pub answered_on : CivilTime → (answered : Option (String Global)) → Bool
answered_on moment None = false
answered_on moment (Some answered) = bytes_eq (day_of (string_bytes answered)) (day_of (moment_text moment))

-- Its clock is asked for, where clocks are, once a day: if it didn't answer yet on the day on which the run begins.
abbrev pub asks_clock : Options → DeviceRow → Bool
asks_clock options d = options.clocks && not (answered_on options.begun d.answered)
