-- The logs of a device, by their rows: which are polled, and from where.
use Rattle.std.specs.Prelude.{◌≡◌, ⊤, ℕ, ◌%◌, ◌==◌, ◌≤◌, not, Bool, if◌then◌else◌, List, [], ◌∷◌, ◌++◌, slice_get}
use Rattle.std.specs.Prelude.{Option, None, Some, String}
use Rattle.std.specs.declared.alloc.Global.{Global}
use Rattle.std.specs.List.{Contains}
use Rattle.std.specs.Option.{unwrap_or}
use Rattle.std.specs.String.{string_bytes}
use Rattle.sqlite_value.specs.Order.{Row as Values, column}
use Rattle.bac_wire.specs.Primitive.{Id}
use Rattle.bac_archive.specs.Items.{number_at}
use Rattle.bac_archive.specs.Put.{log_columns}
use Rattle.bac_archive.specs.Stands.{epochs}
use Rattle.bac_archive.specs.declared.row.LogRow.{LogRow}
use Rattle.bac_poll.specs.Poll.{nothing_told}
use Rattle.bac_poll.specs.State.{standing_as, told_as}
use Rattle.bac_device_poll.specs.State.{Behind, BeginAs, LogAs as TaskAs, Starting}
use Rattle.bac_device_poller.specs.Puts.{PlaceAs}
use Rattle.bac_device_poller.specs.Rows.{LogAs, text_as}
use Rattle.bac_device_poller.specs.Telling.{log_called}
use Rattle.bac_resume.specs.Resumed.{GoesOn}
use Rattle.bac_resume.specs.Rows.{LogTold, untold}
use Rattle.bac_resume.specs.Stands.{is_full, next_of}
use Rattle.bac_resume.specs.declared.resumed.Resumed.{Resumed}
use Rattle.bac_resume.specs.declared.resumed.Resumed.TheVariants.{Counted, Stands, Unbegun}
use Rattle.bac_plan.specs.declared.fault.PlanFault.{PlanFault}
use Rattle.bac_plan.specs.declared.fault.PlanFault.TheVariants.{Device, Log, Memory}

-- ---- which there are

-- it is polled, if its device is
abbrev pub is_asked : LogRow → Bool
is_asked l = not l.stopped

-- it isn't any more
abbrev pub is_stopped : LogRow → Bool
is_stopped l = l.stopped

-- it is of the device with this id
abbrev pub is_of : (id : ℕ) → LogRow → Bool
is_of id l = l.device == id

-- the logs of the device with this id, with one more if it is of that
abbrev pub with_log_of : (id : ℕ) → LogRow → List LogRow → List LogRow
with_log_of id l logs = if is_of id l then logs ++ l ∷ [] else logs

-- those of the device with this id, of all groups
abbrev pub group_at : List (List LogRow) → (id : ℕ) → List LogRow
group_at groups id = unwrap_or (slice_get groups id) []

-- the object of a log, a Trend Log (20)
abbrev pub trend_log : LogRow → Id
trend_log l = record { kind = 20; instance = l.instance }

-- ---- from where it is polled

-- what an archive tells of the log with this id, of what it tells of each
abbrev pub told_at : List LogTold → (id : ℕ) → LogTold
told_at told id = unwrap_or (slice_get told id) untold

-- from its beginning, which may be known by the count alone; or behind its rows
abbrev pub begin_by : Resumed → BeginAs
begin_by Unbegun = Starting None nothing_told
begin_by (Counted place number word) = Starting (Some number) (told_as word)
begin_by (Stands place at) = Behind (standing_as at)

-- the log in its turn, from where its rows stand
abbrev pub IsTask : List LogTold → LogRow → TaskAs → Type 0
IsTask told l task = (resumed : Resumed) × GoesOn (log_columns l) (told_at told l.id) resumed
    × (task ≡ record { log = trend_log l; begin = begin_by resumed })

-- ---- as it stands on record

-- its restart, as that is kept; no octets, if none is on record
abbrev pub restart_of : Option (String Global) → List ℕ
restart_of None = []
restart_of (Some restart) = string_bytes restart

-- the epoch that begins there; the first, if none does
abbrev pub epoch_of : Option Values → ℕ
epoch_of None = 0
epoch_of (Some begins) = number_at (column begins 0) % epochs

-- where the next row of its items stands
abbrev pub place_of : List LogTold → LogRow → PlaceAs
place_of told l = record {
  log = l.id;
  epoch = epoch_of (told_at told l.id).begins;
  full = is_full (told_at told l.id).newest;
}

-- the number that comes next behind these items of an epoch that begins there; the first, if none does
abbrev pub next_from : Option Values → List Values → ℕ
next_from None items = 1
next_from (Some begins) items = next_of (number_at (column begins 1)) items

-- the log, as its rows tell it, where lines call its device so
abbrev pub record_of : (called : List ℕ) → List LogTold → LogRow → LogAs
record_of called told l = record {
  id = l.id;
  device = l.device;
  instance = l.instance;
  name = text_as l.name;
  source = text_as l.source;
  units = text_as l.units;
  description = text_as l.description;
  restart = restart_of l.restart;
  revision = l.revision;
  stopped = l.stopped;
  place = Some (place_of told l);
  next = next_from (told_at told l.id).begins (told_at told l.id).newest;
  called = log_called called (trend_log l);
}

-- ---- why one isn't polled

-- its instance is above that of any object, which is told; unless memory is wanting
abbrev pub IsLogFault : LogRow → PlanFault → Type 0
IsLogFault l Memory = ⊤
IsLogFault l (Device id) = ⊥
IsLogFault l (Log id) = (id ≡ l.id) × (4194304 ≤ l.instance)

-- that of one of these
abbrev pub IsFaultAmong : List LogRow → PlanFault → Type 0
IsFaultAmong logs Memory = ⊤
IsFaultAmong logs (Device id) = ⊥
IsFaultAmong logs (Log id) = (l : LogRow) × Contains logs l × (id ≡ l.id) × (4194304 ≤ l.instance)
