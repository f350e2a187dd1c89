-- What is on record behind a run, and behind what is stopped. Read `KeepPollsAll`, `KeepNames` and `StopStops`.
use Rattle.std.specs.Prelude.{◌≡◌, ℕ, ◌==◌, ◌&&◌, ◌||◌, not, true, false, List, filter, map, Some}
use Rattle.std.specs.List.{Contains, flat_map, list_any}
use Rattle.std.specs.List.Sorted.{IsPermutation}
use Rattle.sqlite.specs.Effect.{Database}
use Rattle.sqlite_trees.specs.Tree.{Trees}
use Rattle.bac_archive.specs.Archive.{HasId}
use Rattle.bac_archive.specs.Put.{LoseNothing, log_columns}
use Rattle.bac_archive.specs.Schema.{HasArchive}
use Rattle.bac_archive.specs.Stands.{StandsAs}
use Rattle.bac_archive.specs.declared.row.DeviceRow.{DeviceRow}
use Rattle.bac_archive.specs.declared.row.LogRow.{LogRow}
use Rattle.bac_archive.specs.declared.standing.Standing.{Standing}
use Rattle.bac_drive.specs.Happens.{Acts, Leaves}
use Rattle.bac_batch.specs.Batch.{Batched}
use Rattle.bac_device_poller.specs.Rows.{device_as}
use Rattle.bac_site_poller.specs.Site.{SiteState}
use Rattle.bac_plan.specs.Changes.{device_of, names_device}
use Rattle.bac_plan.specs.Fresh.{FreshDevicesAs, FreshLogsAs, has_log, id_in, id_of}
use Rattle.bac_plan.specs.Laws.{is_wanted, log_at, polled_at}
use Rattle.bac_plan.specs.Named.{has_instance, is_at, is_whole}
use Rattle.bac_plan.specs.Told.{AreNew, RowsRise, TellsDevice, TellsLog}
use Rattle.bac_plan.specs.declared.named.Named.{Named}
use Rattle.bac_keeping.specs.Keeping.{Around, IsSet, at_first}
use Rattle.bac_keeping.specs.Stopping.{IsStopped}
use Rattle.bac_keeping.specs.declared.run.Run.{Run}
use Rattle.bac_keeping.specs.declared.stopping.Stopped.{Stopped}

-- the rows of an archive that was there rise by their ids, as SQLite keeps them
abbrev pub RiseThere : Database → Type 0
RiseThere old = HasArchive old.schema → RowsRise old.trees

-- Every log on record that isn't stopped, of a device that isn't, is polled at exactly one place of the site of a run,
-- the seat of its device; and no other log is polled.
abbrev pub KeepPollsAll : Type 0
KeepPollsAll = (run : Run) (old begun : Database) (site : SiteState) → RiseThere old
    → (set : IsSet run old begun site)
    → IsPermutation (map log_at (filter (is_wanted set.told.devices.items) set.told.logs.items))
    (flat_map polled_at site.waiting)

-- a device that words name so is told: it isn't stopped, and is kept whole if it is named so
abbrev pub HasNamed : Standing → Named → Type 0
HasNamed t n =
    list_any (λ d. is_at n (device_as d) && (not d.stopped && (d.whole || not (is_whole n)))) t.devices.items ≡ true

-- a log of the device with this id is told, and isn't stopped
abbrev pub HasAsked : Standing → (id instance : ℕ) → Type 0
HasAsked t id instance =
    list_any (λ l. (l.device == id) && ((l.instance == instance) && not l.stopped)) t.logs.items ≡ true

-- As a poll begins, what words name is on record: each device; each log of one that was; and each log of a new one,
-- whose id no log on record named.
abbrev pub KeepNames : Type 0
KeepNames = (run : Run) (old begun : Database) (site : SiteState) → RiseThere old
    → (set : IsSet run old begun site) → (n : Named) → Contains run.named.items n
    → HasNamed set.told n
    × ((id instance : ℕ) → has_instance instance n ≡ true
    → id_in n set.named.told.devices.items ≡ Some id → HasAsked set.told id instance)
    × ((f : FreshDevicesAs) × (g : FreshLogsAs) × AreNew run.named.items set.named.told f g
    × ((id instance : ℕ) → has_instance instance n ≡ true
    → id_of n set.named.told.devices.items f.devices ≡ Some id
    → has_log id instance set.named.told.logs.items ≡ false → HasAsked set.told id instance))

-- And each device and each log on record then stays there, polled or not answered, whatever ends the run.
abbrev pub KeepRecord : {P C : Type 0} → Acts (Batched SiteState) P C → Type 0
KeepRecord {P = P} {C = C} acts =
    (run : Run) (by : Around P C) (old begun : Database) (site : SiteState) (trees : Trees) (id : ℕ)
    → IsSet run old begun site → Leaves acts (at_first by site begun) trees
    → (HasId (begun.trees 1) id → HasId (trees 1) id) × (HasId (begun.trees 3) id → HasId (trees 3) id)

-- ---- what is stopped

-- What words stop loses nothing that an archive had.
abbrev pub StopLosesNothing : Type 0
StopLosesNothing = (named : List Named) (stopped : Stopped) (old new : Database) → IsStopped named stopped old new
    → LoseNothing old.trees new.trees

-- Then a device that they name with all of its logs is told as stopped, and so is each of these, and each that they
-- name for itself.
abbrev pub StopStops : Type 0
StopStops = (named : List Named) (stopped : Stopped) (old new : Database) (t : Standing) (n : Named) (d : DeviceRow)
    → IsStopped named stopped old new → RowsRise old.trees → StandsAs new.trees t → Contains named n
    → Contains stopped.told.devices.items d → is_at n (device_as d) ≡ true
    → (is_whole n ≡ true
    → (e : DeviceRow) × Contains t.devices.items e × (e.id ≡ d.id) × (e.stopped ≡ true))
    × ((l : LogRow) → Contains stopped.told.logs.items l
    → device_of l.device stopped.told.devices.items ≡ Some d
    → (has_instance l.instance n || is_whole n) ≡ true
    → (m : LogRow) × Contains t.logs.items m × (m.id ≡ l.id) × (m.stopped ≡ true))

-- A device that no words name goes on as it was, and so does each of its logs.
abbrev pub OthersStand : Type 0
OthersStand = (named : List Named) (stopped : Stopped) (old new : Database) (t : Standing) (d : DeviceRow)
    → IsStopped named stopped old new → RowsRise old.trees → StandsAs new.trees t
    → Contains stopped.told.devices.items d → names_device named (device_as d) ≡ false
    → TellsDevice t (device_as d)
    × ((l : LogRow) → Contains stopped.told.logs.items l
    → device_of l.device stopped.told.devices.items ≡ Some d → TellsLog t (log_columns l))
