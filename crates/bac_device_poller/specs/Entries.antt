-- What a device brings beside the records of its logs is put, or told. Read `with_entries`.
use Rattle.std.specs.Prelude.{ℕ, ◌==◌, Bool, true, false, List, [], ◌∷◌, ◌++◌, remove, slice_get, Option, None, Some}
use Rattle.std.specs.Prelude.{position}
use Rattle.sqlite_value.specs.declared.value.Value.TheVariants.{Null}
use Rattle.bac_wire.specs.Primitive.{Id}
use Rattle.bac_wire.specs.Stamp.{CivilTime}
use Rattle.bac_walk.specs.declared.outcome.WalkFault.{WalkFault}
use Rattle.bac_poll_steps.specs.declared.turn.PollEnd.TheVariants.{Fault}
use Rattle.bac_answers.specs.declared.entry.Entry.{Entry}
use Rattle.bac_answers.specs.declared.entry.Entry.TheVariants.{Added, Another, Clock, Known, KnownNow, Named}
use Rattle.bac_answers.specs.declared.entry.Entry.TheVariants.{NotAsked, Others, Read, Rejected, Unlisted, Untold}
use Rattle.bac_answers.specs.declared.entry.Naming.{Naming}
use Rattle.bac_answers.specs.declared.who.Who.{Who}
use Rattle.bac_answers.specs.declared.who.Who.TheVariants.{Address, Device, Name}
use Rattle.bac_device_poller.specs.Counts.{no_counts}
use Rattle.bac_device_poller.specs.Ids.{free_id, ids_behind}
use Rattle.bac_device_poller.specs.Naming.{answered_at, known_as, named_as, offset_of}
use Rattle.bac_device_poller.specs.Puts.{PutAs}
use Rattle.bac_device_poller.specs.Rows.{DeviceAs, LogAs, device_put, log_put}
use Rattle.bac_device_poller.specs.Status.{greater_of, status_of}
use Rattle.bac_device_poller.specs.Telling.{LineAs, alone_line, another_line, full_line, known_now_line}
use Rattle.bac_device_poller.specs.Telling.{log_called, new_line, not_asked_line, others_line, rejected_line}
use Rattle.bac_device_poller.specs.Telling.{unlisted_line, unlisted_reason, untold_line}
use Rattle.bac_device_poller.specs.declared.counts.Counts.{Counts}
use Rattle.bac_device_poller.specs.declared.ending.Ending.TheVariants.{Poll}
use Rattle.bac_device_poller.specs.declared.ids.Ids.{Ids}
use Rattle.bac_device_poller.specs.declared.status.Status.{Status}
use Rattle.bac_device_poller.specs.declared.status.Status.TheVariants.{Done, File, NoReply}

-- The rows of a device and of its logs, as they stand on record; what is to be put of them, and told.
pub record RowsAs : Type 0 where
  pub device : DeviceAs
  pub called : List ℕ  -- how lines call it
  pub logs : List LogAs
  pub answered : Option CivilTime  -- when it answered last in this run
  pub ids : Ids  -- those that are free for logs
  pub kept : Counts  -- what was kept of the log that is polled
  pub puts : List PutAs  -- in this order, in one transaction
  pub lines : List LineAs  -- in this order, behind them
  pub status : Status  -- the greatest so far

-- those of a device that isn't asked yet
abbrev pub fresh_rows : DeviceAs → (called : List ℕ) → List LogAs → RowsAs
fresh_rows device called logs = record {
  device = device;
  called = called;
  logs = logs;
  answered = None;
  ids = record { next = 0 };
  kept = no_counts;
  puts = [];
  lines = [];
  status = Done;
}

-- ---- what is put, and told

-- one put more
abbrev pub putting : RowsAs → PutAs → RowsAs
putting r put = record r { puts = r.puts ++ put ∷ [] }

-- one line more
abbrev pub telling : RowsAs → (good : Bool) → List ℕ → RowsAs
telling r good text = record r { lines = r.lines ++ record { good = good; text = text } ∷ [] }

-- a status is left
abbrev pub raising : RowsAs → Status → RowsAs
raising r status = record r { status = greater_of r.status status }

-- one line more, that goes to the errors, of what has this status
abbrev pub failing : RowsAs → Status → List ℕ → RowsAs
failing r status text = telling (raising r status) false text

-- a line to the errors, if there is one
abbrev pub telling_any : RowsAs → Option (List ℕ) → RowsAs
telling_any r None = r
telling_any r (Some text) = telling r false text

-- the row of the device is put, with when it answered last
abbrev pub putting_device : RowsAs → RowsAs
putting_device r = putting r (device_put (answered_at r.answered r.device))

-- ---- one of its logs

-- a log with this instance
abbrev pub is_log : Id → LogAs → Bool
is_log log l = l.instance == log.instance

-- the one at a place, if it is one
abbrev pub log_at : Option ℕ → List LogAs → Option LogAs
log_at None logs = None
log_at (Some place) logs = slice_get logs place

-- the others
abbrev pub logs_beside : Option ℕ → List LogAs → List LogAs
logs_beside None logs = logs
logs_beside (Some place) logs = remove logs place

-- the first with an instance
abbrev pub log_in : Id → List LogAs → Option LogAs
log_in log logs = log_at (position (is_log log) logs) logs

-- the logs without it
abbrev pub without : Id → RowsAs → RowsAs
without log r = record r { logs = logs_beside (position (is_log log) r.logs) r.logs }

-- one more
abbrev pub with_log : RowsAs → LogAs → RowsAs
with_log r l = record r { logs = r.logs ++ l ∷ [] }

-- its row is put in place of the one with its id
abbrev pub putting_log : RowsAs → LogAs → RowsAs
putting_log r l = putting (with_log r l) (log_put false l)

-- ---- what each entry makes of them

-- the device is known by this from now on
abbrev pub knowing : RowsAs → Who → RowsAs
knowing r who = putting_device (record r { device = known_as who r.device })

-- which is told of one that tells neither an instance nor a name
abbrev pub telling_known : RowsAs → Who → RowsAs
telling_known r (Device device) = r
telling_known r (Name name) = r
telling_known r Address = telling r false (alone_line r.called)

-- it didn't tell its list, with the status of that
abbrev pub telling_unlisted : RowsAs → WalkFault → RowsAs
telling_unlisted r why =
    telling_any (failing r (status_of (Poll (Fault why))) (unlisted_line r.called why)) (unlisted_reason r.called why)

-- a log of the device of which nothing is known yet, with this id
abbrev pub new_log : RowsAs → (id : ℕ) → Id → LogAs
new_log r id log = record {
  id = id;
  device = r.device.id;
  instance = log.instance;
  name = Null;
  source = Null;
  units = Null;
  description = Null;
  restart = [];
  revision = None;
  stopped = false;
  place = Some (record { log = id; epoch = 0; full = false });
  next = 1;
  called = log_called r.called log;
}

-- its row is new
abbrev pub adding : RowsAs → LogAs → RowsAs
adding r l = putting (with_log (telling r true (new_line l.called)) l) (log_put true l)

-- if an id is left for it
abbrev pub added_as : Option ℕ → RowsAs → Id → RowsAs
added_as None r log = failing r File (full_line (log_called r.called log))
added_as (Some id) r log = adding (record r { ids = ids_behind r.ids }) (new_log r id log)

-- a log that is on record has these names
abbrev pub renaming : Option LogAs → RowsAs → Naming → RowsAs
renaming None r naming = r
renaming (Some l) r naming = putting_log r (named_as naming l)

-- what is put, or told, of an entry
abbrev pub with_entry : RowsAs → Entry → RowsAs
with_entry r (Known who) = telling_known (knowing r who) who
with_entry r (KnownNow who) = telling (knowing r who) true (known_now_line r.called who)
with_entry r (Another who) = telling r false (another_line r.called who r.device.instance)
with_entry r Untold = telling r false (untold_line r.called r.device.instance)
with_entry r (Rejected reject) = telling r false (rejected_line r.called reject)
with_entry r (Clock offset) = putting_device (record r { device = record r.device { offset = offset_of offset } })
with_entry r (Added log) = added_as (free_id r.ids) r log
with_entry r (Unlisted why) = telling_unlisted r why
with_entry r (Others others) = telling r false (others_line r.called others)
with_entry r (Named log naming) = renaming (log_in log r.logs) (without log r) naming
with_entry r (Read revision) = putting_device (record r { device = record r.device { revision = Some revision } })
with_entry r (NotAsked log) = failing r NoReply (not_asked_line (log_called r.called log))

-- and of all of them, in their order
abbrev pub with_entries : RowsAs → List Entry → RowsAs
with_entries r [] = r
with_entries r (entry ∷ entries) = with_entries (with_entry r entry) entries
