-- The site that is polled, of what an archive tells. Read `IsSite`.
use Rattle.std.specs.Prelude.{◌≡◌, ◌≤◌, ◌<◌, ⊤, ℕ, MatchBool, false, List, [], ◌∷◌, ◌++◌, filter, map, slice_get}
use Rattle.std.specs.Prelude.{None, Some}
use Rattle.std.specs.List.{AllZip, Contains}
use Rattle.std.specs.List.Sorted.{IsNonDecreasingBy, IsPermutation}
use Rattle.bac_archive.specs.Put.{beginning_columns, item_columns}
use Rattle.bac_archive.specs.declared.row.DeviceRow.{DeviceRow}
use Rattle.bac_archive.specs.declared.row.LogRow.{LogRow}
use Rattle.bac_archive.specs.declared.standing.Standing.{Standing}
use Rattle.bac_device_poller.specs.Poller.{PollerAs}
use Rattle.bac_resume.specs.Rows.{LogTold, told_of}
use Rattle.bac_site_poller.specs.Site.{SiteState, fresh_site}
use Rattle.bac_site_poller.specs.declared.seat.Seat.{Seat}
use Rattle.bac_plan.specs.Devices.{IsUnreadable, is_polled}
use Rattle.bac_plan.specs.Logs.{is_of}
use Rattle.bac_plan.specs.Pollers.{IsPoller}
use Rattle.bac_plan.specs.declared.fault.PlanFault.{PlanFault}
use Rattle.bac_plan.specs.declared.fault.PlanFault.TheVariants.{Device, Log, Memory}
use Rattle.bac_plan.specs.declared.options.Options.{Options}

-- a device with these logs, which waits for its turn
abbrev pub IsSeatWith : Options → List LogTold → (its : List LogRow) → DeviceRow → Seat → Type 0
IsSeatWith options told its d seat = (p : PollerAs) × IsPoller options told d its p
    × (seat ≡ record { poller = p; due = 0; sent = 0; is_repeated = false; stray = None })

-- the same, where its logs stand among those of all
abbrev pub IsSeatOf : Options → List LogTold → (logs : List LogRow) → DeviceRow → Seat → Type 0
IsSeatOf options told logs d seat = IsSeatWith options told (filter (is_of d.id) logs) d seat

-- a site without devices, where the ids from this one on are free for new logs
abbrev pub no_devices : Options → (next_log : ℕ) → SiteState
no_devices options next_log = fresh_site options.limits options.begun (record { next = next_log })

-- one more device, with these logs, if it isn't stopped
abbrev pub IsAdded : Options → List LogTold → (its : List LogRow) → DeviceRow → (old new : SiteState) → Type 0
IsAdded options told its d old new = MatchBool d.stopped
    (new ≡ old)
    ((seat : Seat) × IsSeatWith options told its d seat × (new ≡ record old { waiting = old.waiting ++ seat ∷ [] }))

-- The site of what an archive tells: each device that isn't stopped waits for its turn, by rising ids, with its logs by
-- rising instances, and nothing else does.
pub record IsSite (options : Options) (s : Standing) (site : SiteState) : Type 0 where
  pub devices : List DeviceRow  -- all of them
  pub logs : List LogRow  -- all of them
  pub told : List LogTold  -- of each log, by its id
  pub seats : List Seat
  pub each_device : IsPermutation s.devices.items devices
  pub devices_rise : IsNonDecreasingBy (λ d. d.id) devices
  pub each_log : IsPermutation s.logs.items logs
  pub logs_rise : IsNonDecreasingBy (λ l. l.instance) logs
  pub told_is : (log : ℕ) → log < 65536 → slice_get told log
      ≡ Some (told_of (map beginning_columns s.last.items) (map item_columns s.newest.items) log)
  pub seats_are : AllZip (IsSeatOf options told logs) (filter is_polled devices) seats
  pub is : site ≡ record (no_devices options s.next_log) { waiting = seats }

-- why one device isn't added
abbrev pub IsAddFault : DeviceRow → (its : List LogRow) → PlanFault → Type 0
IsAddFault d its Memory = ⊤
IsAddFault d its (Device id) = (d.stopped ≡ false) × (id ≡ d.id) × IsUnreadable d
IsAddFault d its (Log id) = (l : LogRow) × Contains its l × (id ≡ l.id) × (4194304 ≤ l.instance)

-- Why there is no site: a device that isn't stopped can't be read, or the instance of a log is above that of any
-- object, each told by its row's id; or memory is wanting.
abbrev pub IsSiteFault : Standing → PlanFault → Type 0
IsSiteFault s Memory = ⊤
IsSiteFault s (Device id) =
    (d : DeviceRow) × Contains s.devices.items d × (d.stopped ≡ false) × (id ≡ d.id) × IsUnreadable d
IsSiteFault s (Log id) = (l : LogRow) × Contains s.logs.items l × (id ≡ l.id) × (4194304 ≤ l.instance)
