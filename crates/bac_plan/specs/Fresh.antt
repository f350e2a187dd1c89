-- The rows of what words name and isn't on record. Read `with_device` and `with_log`.
use Rattle.std.specs.Prelude.{ℕ, ◌+◌, ◌==◌, ◌&&◌, ◌||◌, nat_lt, Bool, false, if◌then◌else◌, List, [], ◌∷◌, ◌++◌}
use Rattle.std.specs.Prelude.{Option, None, Some, Result, Ok, Err, find}
use Rattle.std.specs.List.{list_any}
use Rattle.std.specs.Option.{option_map}
use Rattle.std.specs.String.{string_bytes}
use Rattle.sqlite_value.specs.declared.value.Value.TheVariants.{Null, Text}
use Rattle.bac_archive.specs.declared.row.DeviceRow.{DeviceRow}
use Rattle.bac_archive.specs.declared.row.LogRow.{LogRow}
use Rattle.bac_device_poller.specs.Rows.{DeviceAs, device_as}
use Rattle.bac_plan.specs.Changes.{names_whole}
use Rattle.bac_plan.specs.Named.{is_at}
use Rattle.bac_plan.specs.declared.fault.NamingFault.{NamingFault}
use Rattle.bac_plan.specs.declared.fault.NamingFault.TheVariants.{DevicesFull, LogsFull}
use Rattle.bac_plan.specs.declared.fresh_log.FreshLog.{FreshLog}
use Rattle.bac_plan.specs.declared.named.Choice.{Choice}
use Rattle.bac_plan.specs.declared.named.Choice.TheVariants.{Logs, Whole}
use Rattle.bac_plan.specs.declared.named.Named.{Named}

infixl 1 ◌>>=◌
-- the next step, if this one didn't fail
abbrev pub ◌>>=◌ : {A B : Type 0} → Result A NamingFault → (A → Result B NamingFault) → Result B NamingFault
Ok a >>= f = f a
Err e >>= f = Err e

-- the next id, if one is left
abbrev pub id_at : (next : ℕ) → Option ℕ
id_at next = if nat_lt 65535 next then None else Some next

-- ---- devices

-- new devices, and the next id that is free
pub record FreshDevicesAs : Type 0 where
  pub devices : List DeviceAs
  pub next : ℕ

-- a device of which nothing is known but where it is
abbrev pub new_device : (id : ℕ) → Named → DeviceAs
new_device id n = record {
  id = id;
  address = Text (string_bytes n.address);
  dnet = n.dnet;
  dadr = Text (string_bytes n.dadr);
  instance = None;
  name = Null;
  revision = None;
  whole = false;
  stopped = false;
  answered = Null;
  offset = None;
}

-- it is kept whole, if it is named so anywhere
abbrev pub fresh_device : List Named → (id : ℕ) → Named → DeviceAs
fresh_device named id n = record (new_device id n) { whole = names_whole named (new_device id n) }

-- one of these rows is at a place
abbrev pub has_place : Named → List DeviceRow → Bool
has_place n devices = list_any (λ d. is_at n (device_as d)) devices

-- so is one of the new ones
abbrev pub is_fresh_at : Named → List DeviceAs → Bool
is_fresh_at n devices = list_any (λ d. is_at n d) devices

-- one new device more, with this id
abbrev pub device_added : List Named → FreshDevicesAs → Named → Option ℕ → Result FreshDevicesAs NamingFault
device_added named f n None = Err DevicesFull
device_added named f n (Some id) =
    Ok (record { devices = f.devices ++ fresh_device named id n ∷ []; next = f.next + 1 })

-- A device that is named is new, if none is at its place.
abbrev pub with_device : List Named → List DeviceRow → FreshDevicesAs → Named → Result FreshDevicesAs NamingFault
with_device named devices f n =
    if has_place n devices || is_fresh_at n f.devices then Ok f else device_added named f n (id_at f.next)

-- all of these that are named
abbrev pub with_devices : List Named → List DeviceRow → FreshDevicesAs → List Named → Result FreshDevicesAs NamingFault
with_devices named devices f [] = Ok f
with_devices named devices f (n ∷ ns) = with_device named devices f n >>= λ g. with_devices named devices g ns

-- ---- trend logs

-- new logs, and the next id that is free
pub record FreshLogsAs : Type 0 where
  pub logs : List FreshLog
  pub next : ℕ

-- the id of the device at a place
abbrev pub id_in : Named → List DeviceRow → Option ℕ
id_in n devices = option_map (λ d. d.id) (find (λ d. is_at n (device_as d)) devices)

-- that of a new one
abbrev pub fresh_id_in : Named → List DeviceAs → Option ℕ
fresh_id_in n devices = option_map (λ d. d.id) (find (λ d. is_at n d) devices)

-- the first of two, if there is one
abbrev pub or_else : Option ℕ → Option ℕ → Option ℕ
or_else None other = other
or_else (Some id) other = Some id

-- the id of the device that is named: on record, or new
abbrev pub id_of : Named → List DeviceRow → List DeviceAs → Option ℕ
id_of n devices fresh = or_else (id_in n devices) (fresh_id_in n fresh)

-- a log of a device is on record
abbrev pub has_log : (device instance : ℕ) → List LogRow → Bool
has_log device instance logs = list_any (λ l. (l.device == device) && (l.instance == instance)) logs

-- or new
abbrev pub is_fresh_log : (device instance : ℕ) → List FreshLog → Bool
is_fresh_log device instance logs = list_any (λ l. (l.device == device) && (l.instance == instance)) logs

-- one new log more, with this id
abbrev pub log_added : FreshLogsAs → (device instance : ℕ) → Option ℕ → Result FreshLogsAs NamingFault
log_added f device instance None = Err LogsFull
log_added f device instance (Some id) =
    Ok (record { logs = f.logs ++ record { id = id; device = device; instance = instance } ∷ []; next = f.next + 1 })

-- A log that is named is new, if its device has none with its instance.
abbrev pub with_log : List LogRow → (device : ℕ) → FreshLogsAs → (instance : ℕ) → Result FreshLogsAs NamingFault
with_log logs device f instance =
    if has_log device instance logs || is_fresh_log device instance f.logs
    then Ok f
    else log_added f device instance (id_at f.next)

-- all of these of a device
abbrev pub with_instances : List LogRow → (device : ℕ) → FreshLogsAs → List ℕ → Result FreshLogsAs NamingFault
with_instances logs device f [] = Ok f
with_instances logs device f (instance ∷ instances) =
    with_log logs device f instance >>= λ g. with_instances logs device g instances

-- those that are named of the device with this id
abbrev pub with_choice : List LogRow → Option ℕ → FreshLogsAs → Choice → Result FreshLogsAs NamingFault
with_choice logs device f Whole = Ok f
with_choice logs None f (Logs instances) = Ok f
with_choice logs (Some device) f (Logs instances) = with_instances logs device f instances.items

-- and of all devices that are
abbrev pub with_logs : List DeviceRow → (fresh : List DeviceAs) → List LogRow → FreshLogsAs → List Named
    → Result FreshLogsAs NamingFault
with_logs devices fresh logs f [] = Ok f
with_logs devices fresh logs f (n ∷ ns) =
    with_choice logs (id_of n devices fresh) f n.choice >>= λ g. with_logs devices fresh logs g ns
