-- What is told of an archive, and once rows are put. Read `NamedAreTold` and `StoppedAreTold`.
use Rattle.std.specs.Prelude.{◌≡◌, ℕ, true, false, if◌then◌else◌, List, [], map, Ok}
use Rattle.std.specs.List.{Contains}
use Rattle.sqlite.specs.Effect.{Database}
use Rattle.sqlite_trees.specs.Tree.{IsTable, Trees}
use Rattle.sqlite_value.specs.Order.{Row as Values}
use Rattle.bac_archive.specs.Archive.{HasId}
use Rattle.bac_archive.specs.Put.{IsPut, log_columns}
use Rattle.bac_archive.specs.Schema.{HasArchive}
use Rattle.bac_archive.specs.Stands.{StandsAs}
use Rattle.bac_archive.specs.declared.row.DeviceRow.{DeviceRow}
use Rattle.bac_archive.specs.declared.row.LogRow.{LogRow}
use Rattle.bac_archive.specs.declared.row.Put.{Put}
use Rattle.bac_archive.specs.declared.standing.Standing.{Standing}
use Rattle.bac_device_poller.specs.Puts.{put_as}
use Rattle.bac_device_poller.specs.Rows.{DeviceAs, device_as}
use Rattle.bac_plan.specs.Changes.{asks_again, with_stopped}
use Rattle.bac_plan.specs.Fresh.{FreshDevicesAs, FreshLogsAs, with_devices, with_logs}
use Rattle.bac_plan.specs.Laws.{HaveOwnIds}
use Rattle.bac_plan.specs.Naming.{named_rows, new_log_put}
use Rattle.bac_plan.specs.NamingLaws.{device_after}
use Rattle.bac_plan.specs.Stopping.{stopped_rows, stops}
use Rattle.bac_plan.specs.StoppingLaws.{stopped_after}
use Rattle.bac_plan.specs.declared.fresh_log.FreshLog.{FreshLog}
use Rattle.bac_plan.specs.declared.named.Named.{Named}

-- ---- ids

-- The rows of devices, and those of logs, rise by their ids, as SQLite keeps the rows of each table: none has the id of
-- another.
pub record RowsRise (trees : Trees) : Type 0 where
  pub devices : IsTable (trees 1)
  pub logs : IsTable (trees 3)

-- Then no two devices that are told have one id.
abbrev pub ToldHaveOwnIds : Type 0
ToldHaveOwnIds = (trees : Trees) (s : Standing) → RowsRise trees → StandsAs trees s → HaveOwnIds s.devices.items

-- And they rise whatever is put.
abbrev pub PutsKeepRise : Type 0
PutsKeepRise = (old new : Database) (puts : List Put) → HasArchive old.schema → IsPut old new puts
    → RowsRise old.trees → RowsRise new.trees

-- Each device and each log that is on record stays under its id, whatever is put.
abbrev pub PutsKeepIds : Type 0
PutsKeepIds = (old new : Database) (puts : List Put) (id : ℕ) → HasArchive old.schema → IsPut old new puts
    → (HasId (old.trees 1) id → HasId (new.trees 1) id) × (HasId (old.trees 3) id → HasId (new.trees 3) id)

-- ---- what is told

-- a device is told as this
abbrev pub TellsDevice : Standing → DeviceAs → Type 0
TellsDevice t x = (d : DeviceRow) × Contains t.devices.items d × (device_as d ≡ x)

-- a log is told with these columns
abbrev pub TellsLog : Standing → Values → Type 0
TellsLog t columns = (l : LogRow) × Contains t.logs.items l × (log_columns l ≡ columns)

-- a log that is asked again isn't stopped
abbrev pub log_named : List Named → Standing → LogRow → Values
log_named named s l = if asks_again named s.devices.items l then with_stopped false l else log_columns l

-- what was told is told as the words leave it, and what is new
pub record TellsNamed (named : List Named) (s t : Standing) (f : FreshDevicesAs) (g : FreshLogsAs) : Type 0 where
  pub devices : (d : DeviceRow) → Contains s.devices.items d → TellsDevice t (device_after named (device_as d))
  pub new_devices : (d : DeviceAs) → Contains f.devices d → TellsDevice t d
  pub logs : (l : LogRow) → Contains s.logs.items l → TellsLog t (log_named named s l)
  pub new_logs : (l : FreshLog) → Contains g.logs l → TellsLog t (new_log_put l).columns

-- what words name and isn't on record is new: these devices, and these logs
pub record AreNew (named : List Named) (s : Standing) (f : FreshDevicesAs) (g : FreshLogsAs) : Type 0 where
  pub devices : with_devices named s.devices.items (record { devices = []; next = s.next_device }) named ≡ Ok f
  pub logs :
      with_logs s.devices.items f.devices s.logs.items (record { logs = []; next = s.next_log }) named ≡ Ok g

-- Once the rows of what words name are put, an archive tells each device and each log as the words leave it, and those
-- that are new.
abbrev pub NamedAreTold : Type 0
NamedAreTold = (named : List Named) (old new : Database) (s t : Standing) (puts : List Put) → HasArchive old.schema
    → RowsRise old.trees → StandsAs old.trees s → named_rows s named ≡ Ok (map put_as puts) → IsPut old new puts
    → StandsAs new.trees t
    → (f : FreshDevicesAs) × (g : FreshLogsAs) × AreNew named s f g × TellsNamed named s t f g

-- a log that is to be stopped is
abbrev pub log_stopped : List Named → Standing → LogRow → Values
log_stopped named s l = if stops named s.devices.items l then with_stopped true l else log_columns l

-- what was told is told as it is stopped
pub record TellsStopped (named : List Named) (s t : Standing) : Type 0 where
  pub devices : (d : DeviceRow) → Contains s.devices.items d → TellsDevice t (stopped_after named (device_as d))
  pub logs : (l : LogRow) → Contains s.logs.items l → TellsLog t (log_stopped named s l)

-- Once the rows of what words stop are put, an archive tells each device and each log as it is stopped, and the others
-- as they were.
abbrev pub StoppedAreTold : Type 0
StoppedAreTold = (named : List Named) (old new : Database) (s t : Standing) (puts : List Put) → HasArchive old.schema
    → RowsRise old.trees → StandsAs old.trees s → map put_as puts ≡ stopped_rows s named → IsPut old new puts
    → StandsAs new.trees t → TellsStopped named s t
