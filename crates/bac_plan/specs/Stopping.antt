-- What words name is stopped. Read `stopped_rows` and `missing_from`.
use Rattle.std.specs.Prelude.{ℕ, ◌+◌, ◌&&◌, ◌||◌, not, Bool, true, false, if◌then◌else◌, List, [], ◌∷◌, ◌++◌}
use Rattle.std.specs.Prelude.{Option, None, Some}
use Rattle.std.specs.List.{flat_map, list_any}
use Rattle.bac_archive.specs.declared.row.DeviceRow.{DeviceRow}
use Rattle.bac_archive.specs.declared.row.LogRow.{LogRow}
use Rattle.bac_archive.specs.declared.standing.Standing.{Standing}
use Rattle.bac_device_poller.specs.Puts.{PutAs}
use Rattle.bac_device_poller.specs.Rows.{DeviceAs, device_as, device_put}
use Rattle.bac_plan.specs.Changes.{device_of, log_put_again, names_whole}
use Rattle.bac_plan.specs.Fresh.{has_log, id_in}
use Rattle.bac_plan.specs.Named.{has_instance, is_at, is_whole}
use Rattle.bac_plan.specs.declared.fault.StopFault.{StopFault}
use Rattle.bac_plan.specs.declared.fault.StopFault.TheVariants.{NoDevice, NoLog}
use Rattle.bac_plan.specs.declared.named.Choice.{Choice}
use Rattle.bac_plan.specs.declared.named.Choice.TheVariants.{Logs, Whole}
use Rattle.bac_plan.specs.declared.named.Named.{Named}

-- ---- what is stopped

-- a device that is named with all of its logs is stopped
abbrev pub device_stop : List Named → DeviceAs → List PutAs
device_stop named d =
    if names_whole named d && not d.stopped then device_put (record d { stopped = true }) ∷ [] else []

-- words name a log of a device: for itself, or with all of its logs
abbrev pub stops_log : List Named → DeviceAs → (instance : ℕ) → Bool
stops_log named d instance = list_any (λ n. is_at n d && (has_instance instance n || is_whole n)) named

-- a log of such a device isn't stopped yet
abbrev pub stops_of : List Named → LogRow → Option DeviceRow → Bool
stops_of named l None = false
stops_of named l (Some d) = not l.stopped && stops_log named (device_as d) l.instance

-- the same by the rows of devices
abbrev pub stops : List Named → List DeviceRow → LogRow → Bool
stops named devices l = stops_of named l (device_of l.device devices)

-- then it is
abbrev pub log_stop : List Named → List DeviceRow → LogRow → List PutAs
log_stop named devices l = if stops named devices l then log_put_again true l ∷ [] else []

-- The rows that are put so that what words name is stopped: those of devices, and then those of logs.
abbrev pub stopped_rows : Standing → List Named → List PutAs
stopped_rows s named = flat_map (λ d. device_stop named (device_as d)) s.devices.items
    ++ flat_map (log_stop named s.devices.items) s.logs.items

-- ---- what isn't there

-- the first of these logs of a device that isn't on record
abbrev pub missing_log : (place : ℕ) → (id : ℕ) → List LogRow → List ℕ → Option StopFault
missing_log place id logs [] = None
missing_log place id logs (instance ∷ instances) =
    if has_log id instance logs then missing_log place id logs instances else Some (NoLog place instance)

-- of what is named of the device with this id
abbrev pub missing_choice : (place : ℕ) → Option ℕ → List LogRow → Choice → Option StopFault
missing_choice place None logs choice = Some (NoDevice place)
missing_choice place (Some id) logs Whole = None
missing_choice place (Some id) logs (Logs instances) = missing_log place id logs instances.items

-- the first of two, if there is one
abbrev pub or_fault : Option StopFault → Option StopFault → Option StopFault
or_fault None other = other
or_fault (Some fault) other = Some fault

-- The first of what words name that isn't on record, where so many stand before them.
abbrev pub missing_from : (place : ℕ) → Standing → List Named → Option StopFault
missing_from place s [] = None
missing_from place s (n ∷ ns) =
    or_fault (missing_choice place (id_in n s.devices.items) s.logs.items n.choice) (missing_from (place + 1) s ns)
