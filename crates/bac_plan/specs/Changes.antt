-- The rows on record that words change: a device that is named is polled, and kept whole if it is named so; a log that
-- is named is asked again. Read `device_change` and `log_change`.
use Rattle.std.specs.Prelude.{ℕ, ◌==◌, ◌&&◌, ◌||◌, not, Bool, false, if◌then◌else◌, List, [], ◌∷◌, ◌++◌, take}
use Rattle.std.specs.Prelude.{Option, None, Some, find}
use Rattle.std.specs.List.{list_any}
use Rattle.sqlite_value.specs.Order.{Row as Values}
use Rattle.sqlite_value.specs.declared.value.Value.TheVariants.{Int}
use Rattle.bac_archive.specs.Put.{flag, log_columns}
use Rattle.bac_archive.specs.declared.row.DeviceRow.{DeviceRow}
use Rattle.bac_archive.specs.declared.row.LogRow.{LogRow}
use Rattle.bac_device_poller.specs.Puts.{PutAs}
use Rattle.bac_device_poller.specs.Rows.{DeviceAs, device_as, device_put}
use Rattle.bac_plan.specs.Named.{has_instance, is_at, is_whole}
use Rattle.bac_plan.specs.declared.named.Named.{Named}

-- ---- a device

-- words name it
abbrev pub names_device : List Named → DeviceAs → Bool
names_device named d = list_any (λ n. is_at n d) named

-- with all of its trend logs
abbrev pub names_whole : List Named → DeviceAs → Bool
names_whole named d = list_any (λ n. is_at n d && is_whole n) named

-- Its Database_Revision is that of its Object_List as that was asked for: of a device whose list wasn't, none.
abbrev pub revision_for : (whole : Bool) → DeviceAs → Option ℕ
revision_for whole d = if whole && not d.whole then None else d.revision

-- one that is named, maybe with all of them
abbrev pub named_as : (whole : Bool) → DeviceAs → DeviceAs
named_as whole d = record d { revision = revision_for whole d; whole = d.whole || whole; stopped = false }

-- the words change its row
abbrev pub changes_device : List Named → DeviceAs → Bool
changes_device named d = (d.stopped && names_device named d) || (names_whole named d && not d.whole)

-- then that is put in place of the one with its id
abbrev pub device_change : List Named → DeviceAs → List PutAs
device_change named d =
    if changes_device named d then device_put (named_as (names_whole named d) d) ∷ [] else []

-- ---- a trend log

-- words name a log of a device: for itself, or with all of a device that was stopped
abbrev pub names_log : List Named → DeviceAs → (instance : ℕ) → Bool
names_log named d instance =
    list_any (λ n. is_at n d && (has_instance instance n || (is_whole n && d.stopped))) named

-- the device with this id
abbrev pub device_of : (id : ℕ) → List DeviceRow → Option DeviceRow
device_of id devices = find (λ d. d.id == id) devices

-- a log of such a device is stopped, and is named
abbrev pub asks_again_of : List Named → LogRow → Option DeviceRow → Bool
asks_again_of named l None = false
asks_again_of named l (Some d) = l.stopped && names_log named (device_as d) l.instance

-- so it is asked again
abbrev pub asks_again : List Named → List DeviceRow → LogRow → Bool
asks_again named devices l = asks_again_of named l (device_of l.device devices)

-- the row of a log, which is stopped, or isn't: the last of its columns tells
abbrev pub with_stopped : (stopped : Bool) → LogRow → Values
with_stopped stopped l = take 9 (log_columns l) ++ Int (flag stopped) ∷ []

-- such a row is put in place of the one with its id
abbrev pub log_put_again : (stopped : Bool) → LogRow → PutAs
log_put_again stopped l = record { tree = 3; is_new = false; columns = with_stopped stopped l }

-- a log that is asked again isn't stopped any more
abbrev pub log_change : List Named → List DeviceRow → LogRow → List PutAs
log_change named devices l =
    if asks_again named devices l then log_put_again false l ∷ [] else []
