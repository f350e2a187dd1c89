-- The logs that are shown.
use Rattle.std.specs.Prelude.{ℕ, ◌==◌, ◌&&◌, not, if◌then◌else◌, Bool, List, Option, None, Some, find, filter_map}
use Rattle.bac_archive.specs.declared.known.Known.{Known}
use Rattle.bac_archive.specs.declared.row.BeginningRow.{BeginningRow}
use Rattle.bac_archive.specs.declared.row.DeviceRow.{DeviceRow}
use Rattle.bac_archive.specs.declared.row.LogRow.{LogRow}
use Rattle.bac_kept.specs.Words.{is_chosen, names_one}
use Rattle.bac_kept.specs.declared.shown.ShownLog.{ShownLog}
use Rattle.bac_kept.specs.declared.words.Choice.{Choice}

-- a log, with its device, and where the epochs of logs begin
pub record Told : Type 0 where
  pub device : DeviceRow
  pub log : LogRow
  pub beginnings : List BeginningRow

-- a log that is shown, as its rows are
abbrev pub told_of : ShownLog → Told
told_of s = record { device = s.device.now; log = s.log.now; beginnings = s.beginnings.now }

-- the device with this id
abbrev pub device_with : List DeviceRow → ℕ → Option DeviceRow
device_with devices id = find (λ d. d.id == id) devices

-- a log, with its device, if that is on record and the log is chosen
abbrev pub shown_with : Choice → List BeginningRow → LogRow → Option DeviceRow → Option Told
shown_with choice beginnings log None = None
shown_with choice beginnings log (Some d) =
    if is_chosen choice d log then Some (record { device = d; log = log; beginnings = beginnings }) else None

-- the same of what an archive has on record
abbrev pub shown_of : Known → Choice → LogRow → Option Told
shown_of k choice log = shown_with choice k.beginnings.items log (device_with k.devices.items log.device)

-- the logs that are shown, by rising ids
abbrev pub shown_logs : Known → Choice → List Told
shown_logs k choice = filter_map (shown_of k choice) k.logs.items

-- the lines of each of so many logs stand behind one that names it, unless one was named, and there is one such
abbrev pub has_heads : Choice → ℕ → Bool
has_heads choice count = not (names_one choice && (count == 1))
