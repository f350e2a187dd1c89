-- A law of the site that is polled. Read `EachIsPolledOnce`.
use Rattle.std.specs.Prelude.{ℕ, ◌≤◌, ◌==◌, ◌&&◌, Bool, List, filter, length, map}
use Rattle.std.specs.List.{flat_map, list_any}
use Rattle.std.specs.List.Sorted.{IsPermutation}
use Rattle.bac_wire.specs.Primitive.{Id}
use Rattle.bac_archive.specs.declared.row.DeviceRow.{DeviceRow}
use Rattle.bac_archive.specs.declared.row.LogRow.{LogRow}
use Rattle.bac_archive.specs.declared.standing.Standing.{Standing}
use Rattle.bac_site_poller.specs.Site.{SiteState}
use Rattle.bac_site_poller.specs.declared.seat.Seat.{Seat}
use Rattle.bac_plan.specs.Devices.{is_polled}
use Rattle.bac_plan.specs.Logs.{is_asked, is_of, trend_log}
use Rattle.bac_plan.specs.Site.{IsSite}
use Rattle.bac_plan.specs.declared.options.Options.{Options}

-- a trend log of a device, by the id of the device's row
pub record LogAt : Type 0 where
  pub device : ℕ
  pub log : Id

-- that of a log's row
abbrev pub log_at : LogRow → LogAt
log_at l = record { device = l.device; log = trend_log l }

-- the logs that are polled at a seat, each by the row of its device there
abbrev pub polled_at : Seat → List LogAt
polled_at seat =
    map (λ task. record { device = seat.poller.rows.device.id; log = task.log }) seat.poller.poll.logs

-- a log isn't stopped, and is of a device on record that isn't
abbrev pub is_wanted : List DeviceRow → LogRow → Bool
is_wanted devices l = is_asked l && list_any (λ d. is_of d.id l && is_polled d) devices

-- no two rows of devices have one id
abbrev pub HaveOwnIds : List DeviceRow → Type 0
HaveOwnIds devices = (id : ℕ) → length (filter (λ d. d.id == id) devices) ≤ 1

-- Every log on record that isn't stopped, of a device that isn't, is polled in exactly one place, which is at the seat
-- of its device; and no other log is polled anywhere.
abbrev pub EachIsPolledOnce : Type 0
EachIsPolledOnce = (options : Options) (s : Standing) (site : SiteState) → IsSite options s site
    → HaveOwnIds s.devices.items
    → IsPermutation (map log_at (filter (is_wanted s.devices.items) s.logs.items)) (flat_map polled_at site.waiting)
