-- Laws of what words stop. Read `NamedAreStopped` and `OthersGoOn`.
use Rattle.std.specs.Prelude.{◌≡◌, ◌&&◌, ◌||◌, not, true, false, if◌then◌else◌, List, [], Some}
use Rattle.std.specs.List.{Contains}
use Rattle.bac_archive.specs.declared.row.DeviceRow.{DeviceRow}
use Rattle.bac_archive.specs.declared.row.LogRow.{LogRow}
use Rattle.bac_device_poller.specs.Rows.{DeviceAs, device_as}
use Rattle.bac_plan.specs.Changes.{device_of, names_device, names_whole}
use Rattle.bac_plan.specs.Named.{has_instance, is_at, is_whole}
use Rattle.bac_plan.specs.Stopping.{device_stop, log_stop, stops}
use Rattle.bac_plan.specs.declared.named.Named.{Named}

-- the row of a device once the rows are put
abbrev pub stopped_after : List Named → DeviceAs → DeviceAs
stopped_after named d = if names_whole named d && not d.stopped then record d { stopped = true } else d

-- A device that words name with all of its logs is stopped then; so is each of these, and one that is named for itself.
abbrev pub NamedAreStopped : Type 0
NamedAreStopped = (named : List Named) (devices : List DeviceRow) (n : Named) (d : DeviceRow) → Contains named n
    → is_at n (device_as d) ≡ true
    → (is_whole n ≡ true → (stopped_after named (device_as d)).stopped ≡ true)
    × ((l : LogRow) → device_of l.device devices ≡ Some d → (has_instance l.instance n || is_whole n) ≡ true
    → (l.stopped || stops named devices l) ≡ true)

-- A device that no words name gets no row, and none of its logs does.
abbrev pub OthersGoOn : Type 0
OthersGoOn = (named : List Named) (devices : List DeviceRow) (d : DeviceRow)
    → names_device named (device_as d) ≡ false → (device_stop named (device_as d) ≡ [])
    × ((l : LogRow) → device_of l.device devices ≡ Some d → log_stop named devices l ≡ [])
