-- Laws of what words put on record. Read `NamedArePolled`, `NamedLogsAreAsked` and `OthersStay`.
use Rattle.std.specs.Prelude.{◌≡◌, ⊤, ℕ, ◌+◌, ◌≤◌, ◌==◌, Bool, ◌&&◌, ◌||◌, not, true, false, if◌then◌else◌}
use Rattle.std.specs.Prelude.{List, [], ◌∷◌, ◌++◌, map, Some, Ok}
use Rattle.std.specs.List.{Contains, list_any}
use Rattle.bac_archive.specs.declared.row.DeviceRow.{DeviceRow}
use Rattle.bac_archive.specs.declared.row.LogRow.{LogRow}
use Rattle.bac_archive.specs.declared.standing.Standing.{Standing}
use Rattle.bac_device_poller.specs.Rows.{DeviceAs, device_as}
use Rattle.bac_plan.specs.Changes.{asks_again, changes_device, device_change, device_of}
use Rattle.bac_plan.specs.Changes.{log_change, named_as, names_device}
use Rattle.bac_plan.specs.Changes.{names_log, names_whole}
use Rattle.bac_plan.specs.Fresh.{FreshDevicesAs, FreshLogsAs, has_log, id_in, id_of, with_devices, with_logs}
use Rattle.bac_plan.specs.Laws.{HaveOwnIds}
use Rattle.bac_plan.specs.Named.{has_instance, is_at, is_whole}
use Rattle.bac_plan.specs.declared.fresh_log.FreshLog.{FreshLog}
use Rattle.bac_plan.specs.declared.named.Named.{Named}

-- the row of a device once the words' rows are put
abbrev pub device_after : List Named → DeviceAs → DeviceAs
device_after named d = if changes_device named d then named_as (names_whole named d) d else d

-- all of them: each in place of the one with its id, and new ones
abbrev pub devices_after : Standing → List Named → FreshDevicesAs → List DeviceAs
devices_after s named f = map (λ d. device_after named (device_as d)) s.devices.items ++ f.devices

-- Each device that words name is on record then, at the place that is named, isn't stopped, and is kept whole if it is
-- named so.
abbrev pub NamedArePolled : Type 0
NamedArePolled = (s : Standing) (named : List Named) (f : FreshDevicesAs) (n : Named)
    → with_devices named s.devices.items (record { devices = []; next = s.next_device }) named ≡ Ok f
    → Contains named n
    → list_any (λ d. is_at n d && (not d.stopped && (d.whole || not (is_whole n)))) (devices_after s named f) ≡ true

-- A device that no words name gets no row, and none of its logs does; nor does a log that none names.
abbrev pub OthersStay : Type 0
OthersStay = (s : Standing) (named : List Named) (d : DeviceRow)
    → (names_device named (device_as d) ≡ false → device_change named (device_as d) ≡ [])
    × ((l : LogRow) → device_of l.device s.devices.items ≡ Some d
    → names_log named (device_as d) l.instance ≡ false → log_change named s.devices.items l ≡ [])
    × ((instance : ℕ) → names_device named (device_as d) ≡ false → names_log named (device_as d) instance ≡ false)

-- a log, as far as it is asked
pub record LogNow : Type 0 where
  pub device : ℕ
  pub instance : ℕ
  pub stopped : Bool

-- the same of its row once the words' rows are put
abbrev pub log_after : List Named → List DeviceRow → LogRow → LogNow
log_after named devices l =
    record { device = l.device; instance = l.instance; stopped = l.stopped && not (asks_again named devices l) }

-- and of a new one
abbrev pub fresh_after : FreshLog → LogNow
fresh_after l = record { device = l.device; instance = l.instance; stopped = false }

-- all of them
abbrev pub logs_after : Standing → List Named → FreshLogsAs → List LogNow
logs_after s named g = map (log_after named s.devices.items) s.logs.items ++ map fresh_after g.logs

-- A log of a device on record that words name for itself is on record then, and isn't stopped.
abbrev pub NamedLogsAreAsked : Type 0
NamedLogsAreAsked = (s : Standing) (named : List Named) (f : FreshDevicesAs) (g : FreshLogsAs) (n : Named)
    → (id instance : ℕ)
    → HaveOwnIds s.devices.items
    → with_logs s.devices.items f.devices s.logs.items (record { logs = []; next = s.next_log }) named ≡ Ok g
    → Contains named n → has_instance instance n ≡ true → id_in n s.devices.items ≡ Some id
    → list_any (λ l. (l.device == id) && ((l.instance == instance) && not l.stopped)) (logs_after s named g) ≡ true

-- The same of a log of a new device, whose id no log on record names.
abbrev pub FreshLogsAreAsked : Type 0
FreshLogsAreAsked = (s : Standing) (named : List Named) (f : FreshDevicesAs) (g : FreshLogsAs) (n : Named)
    → (id instance : ℕ)
    → with_logs s.devices.items f.devices s.logs.items (record { logs = []; next = s.next_log }) named ≡ Ok g
    → Contains named n → has_instance instance n ≡ true → id_of n s.devices.items f.devices ≡ Some id
    → has_log id instance s.logs.items ≡ false
    → list_any (λ l. (l.device == id) && ((l.instance == instance) && not l.stopped)) (logs_after s named g) ≡ true

-- each of these ids is the next one, from this one on, and 65535 is the last
abbrev pub RiseFrom : (next : ℕ) → List ℕ → Type 0
RiseFrom next [] = ⊤
RiseFrom next (id ∷ ids) = (id ≡ next) × (id ≤ 65535) × RiseFrom (next + 1) ids

-- New devices have the ids that come next, one after the other, so no two have one id, and none has one on record.
abbrev pub DeviceIdsAreNext : Type 0
DeviceIdsAreNext = (named : List Named) (devices : List DeviceRow) (next : ℕ) (f : FreshDevicesAs)
    → with_devices named devices (record { devices = []; next = next }) named ≡ Ok f
    → RiseFrom next (map (λ d. d.id) f.devices)

-- And so have new logs.
abbrev pub LogIdsAreNext : Type 0
LogIdsAreNext = (named : List Named) (devices : List DeviceRow) (fresh : List DeviceAs) (logs : List LogRow) (next : ℕ)
    → (g : FreshLogsAs) → with_logs devices fresh logs (record { logs = []; next = next }) named ≡ Ok g
    → RiseFrom next (map (λ l. l.id) g.logs)
