-- Each log is polled once.
use Rattle.std.proofs.Common.{◌≡◌, ℕ, true, List, map, sym, ap, subst, ◌∙◌}
use Rattle.std.specs.List.{AllZip, filter, flat_map}
use Rattle.std.specs.List.Sorted.{IsPermutation}
use Rattle.std.proofs.lemmas.Bool.{eqb-true}
use Rattle.std.proofs.lemmas.List.Sorted.{IsPermutation-map}
use Rattle.bac_device_poll.specs.State.{LogAs as TaskAs}
use Rattle.bac_device_poller.specs.Poller.{PollerAs}
use Rattle.bac_archive.specs.declared.row.DeviceRow.{DeviceRow}
use Rattle.bac_archive.specs.declared.row.LogRow.{LogRow}
use Rattle.bac_resume.specs.Rows.{LogTold}
use Rattle.bac_site_poller.specs.Site.{SiteState}
use Rattle.bac_site_poller.specs.declared.seat.Seat.{Seat}
use Rattle.bac_plan.specs.Devices.{is_polled}
use Rattle.bac_plan.specs.Laws.{EachIsPolledOnce, LogAt, is_wanted, log_at, polled_at}
use Rattle.bac_plan.specs.Logs.{IsTask, is_asked, is_of, trend_log}
use Rattle.bac_plan.specs.Site.{IsSeatOf}
use Rattle.bac_plan.specs.declared.options.Options.{Options}
use Rattle.bac_plan.proofs.Shares.{all_shared, map_flat, map_passing, zip_flat, zip_map, filter_turned}

-- the logs of a device that are asked
abbrev asked_of : List LogRow → DeviceRow → List LogRow
asked_of logs d = filter is_asked (filter (is_of d.id) logs)

-- the place of a log at the seat of a device
abbrev at_seat : DeviceRow → LogRow → LogAt
at_seat d l = record { device = d.id; log = trend_log l }

-- what is polled by a poller
abbrev polled_by : PollerAs → List LogAt
polled_by p = map (λ (task : TaskAs). record { device = p.rows.device.id; log = task.log }) p.poll.logs

-- the tasks of a device are its logs that are asked
tasks_are : (told : List LogTold) (d : DeviceRow) (logs : List LogRow) (tasks : List TaskAs) → AllZip (IsTask told) logs tasks
    → map (λ (task : TaskAs). record { device = d.id; log = task.log }) tasks ≡ map (at_seat d) logs
tasks_are told d logs tasks all =
    zip_map (IsTask told) (at_seat d) (λ (task : TaskAs). record { device = d.id; log = task.log })
    (λ l task is. ap (λ (t : TaskAs). record { device = d.id; log = t.log }) is.2) logs tasks all

-- a log of a device is at its seat
at_own : (d : DeviceRow) (l : LogRow) → is_of d.id l ≡ true → at_seat d l ≡ log_at l
at_own d l is = ap (λ (n : ℕ). record { device = n; log = trend_log l }) (sym (eqb-true l.device d.id is))

own_logs : (logs : List LogRow) (d : DeviceRow) → map (at_seat d) (asked_of logs d) ≡ map log_at (asked_of logs d)
own_logs logs d =
    ap (map (at_seat d)) (filter_turned is_asked (is_of d.id) logs)
    ∙ map_passing (is_of d.id) (at_seat d) log_at (at_own d) (filter is_asked logs)
    ∙ ap (map log_at) (filter_turned (is_of d.id) is_asked logs)

seat_polls : (options : Options) (told : List LogTold) (logs : List LogRow) (d : DeviceRow) (seat : Seat) → IsSeatOf options told logs d seat
    → polled_at seat ≡ map log_at (asked_of logs d)
seat_polls options told logs d seat has =
    ap polled_at has.2 ∙ ap polled_by has.1.is ∙ tasks_are told d (asked_of logs d) has.1.tasks has.1.tasks_are ∙ own_logs logs d

pub polled_once : EachIsPolledOnce
polled_once options s site is own =
    let shared : IsPermutation (filter (is_wanted s.devices.items) s.logs.items) (flat_map (asked_of is.logs) (filter is_polled is.devices)) =
    all_shared (λ (d : DeviceRow). d.id) (λ (l : LogRow). l.device) is_polled is_asked s.devices.items is.devices s.logs.items is.logs own is.each_device is.each_log in
    let placed : IsPermutation (map log_at (filter (is_wanted s.devices.items) s.logs.items)) (map log_at (flat_map (asked_of is.logs) (filter is_polled is.devices))) =
    IsPermutation-map log_at _ _ shared in
    let polled : flat_map polled_at is.seats ≡ flat_map (λ (d : DeviceRow). map log_at (asked_of is.logs d)) (filter is_polled is.devices) =
    zip_flat (IsSeatOf options is.told is.logs) (λ (d : DeviceRow). map log_at (asked_of is.logs d)) polled_at (seat_polls options is.told is.logs) (filter is_polled is.devices) is.seats is.seats_are in
    let there : flat_map polled_at site.waiting ≡ flat_map polled_at is.seats = ap (λ (t : SiteState). flat_map polled_at t.waiting) is.is in
    subst (λ (xs : List LogAt). IsPermutation (map log_at (filter (is_wanted s.devices.items) s.logs.items)) xs)
    (map_flat log_at (asked_of is.logs) (filter is_polled is.devices) ∙ sym polled ∙ sym there) placed
