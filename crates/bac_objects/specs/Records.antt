-- Whose records a ReadRange asks for (clause 15.8).
use Rattle.std.specs.Prelude.{ℕ, ◌==◌, if◌then◌else◌, Result, Ok, Err}
use Rattle.std.specs.Map.{lookup}
use Rattle.bac_wire.specs.Chain.{◌>>=◌}
use Rattle.bac_log.specs.TrendLog.{Log}
use Rattle.bac_apdu.specs.declared.service.read_range.ReadRange.{ReadRange}
use Rattle.bac_apdu.specs.Service.PropertyId.{log_buffer}
use Rattle.bac_objects.specs.Chain.{or_fault}
use Rattle.bac_objects.specs.Properties.{row, object_table, device_table}
use Rattle.bac_objects.specs.State.{State, is_id}
use Rattle.bac_objects.specs.Writing.{checked, is_device}
use Rattle.bac_objects.specs.declared.fault.Fault.{Fault}
use Rattle.bac_objects.specs.declared.fault.Fault.TheVariants.{UnknownObject, NotList}
use Rattle.bac_objects.specs.declared.object.Body.{Body}
use Rattle.bac_objects.specs.declared.object.Body.TheVariants as body
use Rattle.bac_objects.specs.declared.object.Object as object

-- Log_Buffer alone has records
abbrev pub buffer_of : ℕ → Body → Result Log Fault
buffer_of property (body.Command c) = Err NotList
buffer_of property (body.Log l) = if property == log_buffer then Ok l.log else Err NotList

-- the log of an object that is there, or the first fault
abbrev pub object_records : ReadRange → object.Object → Result Log Fault
object_records r o = do
  ok ← checked (row r.property (object_table r.object o)) r.index
  buffer_of r.property o.body

-- none of the device's own properties has records
abbrev pub device_refusal : Result (Unit {0}) Fault → Fault
device_refusal (Ok ok) = NotList
device_refusal (Err fault) = fault

-- The log, or the first fault: the object isn't there, it lacks the property, an index into what is no array, a
-- property without records.
abbrev pub records_of : State → ReadRange → Result Log Fault
records_of d r =
    if is_device d r.object then Err (device_refusal (checked (row r.property (device_table d)) r.index)) else (do
      o ← or_fault (lookup (is_id r.object) d.objects) UnknownObject
      object_records r o)
