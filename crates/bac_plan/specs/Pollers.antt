-- The poller of a device that isn't asked yet, by its row and those of its logs.
use Rattle.std.specs.Prelude.{◌≡◌, ◌≤◌, ⊤, ℕ, List, filter, map, None}
use Rattle.std.specs.List.{AllZip, Contains}
use Rattle.bac_archive.specs.declared.row.DeviceRow.{DeviceRow}
use Rattle.bac_archive.specs.declared.row.LogRow.{LogRow}
use Rattle.bac_device_poll.specs.Poll.{fresh, with_steps}
use Rattle.bac_device_poll.specs.State.{LogAs as TaskAs}
use Rattle.bac_device_poll.specs.declared.poll.Known.{Known}
use Rattle.bac_answers.specs.declared.way.Way.{Way}
use Rattle.bac_device_poller.specs.Entries.{fresh_rows}
use Rattle.bac_device_poller.specs.Poller.{PollerAs, fresh_poller}
use Rattle.bac_device_poller.specs.Rows.{device_as}
use Rattle.bac_link.specs.declared.transactions.Transactions.{Transactions}
use Rattle.bac_resume.specs.Rows.{LogTold}
use Rattle.bac_plan.specs.Clock.{asks_clock}
use Rattle.bac_plan.specs.Devices.{IsUnreadable, IsWayOf, called_of, who_of}
use Rattle.bac_plan.specs.Logs.{IsTask, is_asked, is_stopped, record_of, trend_log}
use Rattle.bac_plan.specs.declared.fault.PlanFault.{PlanFault}
use Rattle.bac_plan.specs.declared.fault.PlanFault.TheVariants.{Device, Log, Memory}
use Rattle.bac_plan.specs.declared.options.Options.{Options}

-- what is on record of a device with these logs
pub record IsKnown (d : DeviceRow) (logs : List LogRow) (known : Known) : Type 0 where
  pub who : known.who ≡ who_of d
  pub revision : known.revision ≡ d.revision
  pub whole : known.whole ≡ d.whole
  pub others : known.others ≡ None
  pub stopped : known.stopped.items ≡ map trend_log (filter is_stopped logs)

-- the transactions with a device there: none is begun
abbrev pub transactions_on : Way → (retries : ℕ) → Transactions
transactions_on way retries = record { retries = retries; route = way.route; invoke = 0; begun = 0; pending = None }

-- The poller of the device of this row: it is asked there; its logs that aren't stopped are polled in this order, each
-- from where its rows stand; and all of its logs stand on record so.
pub record IsPoller (options : Options) (told : List LogTold) (d : DeviceRow) (logs : List LogRow) (p : PollerAs)
    : Type 0 where
  pub way : Way
  pub known : Known
  pub tasks : List TaskAs
  pub way_is : IsWayOf d way
  pub known_is : IsKnown d logs known
  pub tasks_are : AllZip (IsTask told) (filter is_asked logs) tasks
  pub is : p ≡ fresh_poller
      (with_steps options.steps (fresh known tasks options.records options.retries (asks_clock options d)))
      (transactions_on way options.retries) way options.retries
      (fresh_rows (device_as d) (called_of d) (map (record_of (called_of d) told) logs))

-- why there is none: its row, or that of one of its logs, or memory is wanting
abbrev pub IsPollerFault : DeviceRow → List LogRow → PlanFault → Type 0
IsPollerFault d logs Memory = ⊤
IsPollerFault d logs (Device id) = (id ≡ d.id) × IsUnreadable d
IsPollerFault d logs (Log id) = (l : LogRow) × Contains logs l × (id ≡ l.id) × (4194304 ≤ l.instance)
