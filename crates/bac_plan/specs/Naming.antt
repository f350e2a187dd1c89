-- What words name goes on record. Read `named_rows`.
use Rattle.std.specs.Prelude.{pos, false, true, List, [], ◌∷◌, ◌++◌, map, Result, Ok}
use Rattle.std.specs.List.{flat_map}
use Rattle.sqlite_value.specs.declared.value.Value.TheVariants.{Int, Null}
use Rattle.bac_archive.specs.Put.{flag}
use Rattle.bac_archive.specs.declared.standing.Standing.{Standing}
use Rattle.bac_device_poller.specs.Puts.{PutAs}
use Rattle.bac_device_poller.specs.Rows.{DeviceAs, columns_of_device, device_as}
use Rattle.bac_plan.specs.Changes.{device_change, log_change}
use Rattle.bac_plan.specs.Fresh.{◌>>=◌, with_devices, with_logs}
use Rattle.bac_plan.specs.declared.fault.NamingFault.{NamingFault}
use Rattle.bac_plan.specs.declared.fresh_log.FreshLog.{FreshLog}
use Rattle.bac_plan.specs.declared.named.Named.{Named}

-- a new device is put
abbrev pub new_device_put : DeviceAs → PutAs
new_device_put d = record { tree = 1; is_new = true; columns = columns_of_device d }

-- a new log, of which nothing is known but where it is
abbrev pub new_log_put : FreshLog → PutAs
new_log_put l = record {
  tree = 3;
  is_new = true;
  columns = Int (pos l.id) ∷ Int (pos l.device) ∷ Int (pos l.instance) ∷ Null ∷ Null ∷ Null ∷ Null ∷ Null ∷ Null
      ∷ Int (flag false) ∷ [];
}

-- the rows of devices that the words change, and of new ones; then the same of logs
abbrev pub rows_of : Standing → List Named → List DeviceAs → List FreshLog → List PutAs
rows_of s named devices logs =
    flat_map (λ d. device_change named (device_as d)) s.devices.items ++ map new_device_put devices
    ++ flat_map (log_change named s.devices.items) s.logs.items ++ map new_log_put logs

-- The rows that are put so that what words name is on record. Where no id is left for a device that tells, and then
-- where none is left for a log.
abbrev pub named_rows : Standing → List Named → Result (List PutAs) NamingFault
named_rows s named = with_devices named s.devices.items (record { devices = []; next = s.next_device }) named
    >>= λ f. with_logs s.devices.items f.devices s.logs.items (record { logs = []; next = s.next_log }) named
    >>= λ g. Ok (rows_of s named f.devices g.logs)
