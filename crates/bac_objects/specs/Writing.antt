-- How properties are written (clause 15.9): each fault in its order.
use Rattle.std.specs.Prelude.{ℕ, ℤ, pos, negsuc, ◌-◌, ◌^◌, Bool, true, false, slice_set, Option, Some, None, Result, Ok}
use Rattle.std.specs.Prelude.{Err, nat_lt, nat_le, ◌==◌, ◌&&◌, ◌||◌, not, if◌then◌else◌}
use Rattle.std.specs.Map.{lookup, set_value}
use Rattle.std.specs.Option.{unwrap_or}
use Rattle.bac_wire.specs.Chain.{◌>>=◌}
use Rattle.bac_wire.specs.Primitive.{Primitive, Null, Boolean, Unsigned, Signed, Enumerated, Id}
use Rattle.bac_wire.specs.Stamp.{CivilTime}
use Rattle.bac_log.specs.History.{is_change}
use Rattle.bac_log.specs.TrendLog.{Log, newest, last_ordinal, purges, enables}
use Rattle.bac_objects.specs.Chain.{or_fault}
use Rattle.bac_objects.specs.Properties.{Shown, Array, row, object_table, device_table}
use Rattle.bac_apdu.specs.Service.WriteProperty.{PropertyWrite}
use Rattle.bac_objects.specs.State.{State, is_id}
use Rattle.bac_objects.specs.declared.command.Command.{Command}
use Rattle.bac_objects.specs.declared.command.Range.{Range}
use Rattle.bac_objects.specs.declared.command.Range.TheVariants as range
use Rattle.bac_objects.specs.declared.command.Setting.{Setting}
use Rattle.bac_objects.specs.declared.command.Setting.TheVariants as setting
use Rattle.bac_objects.specs.declared.fault.Fault.{Fault}
use Rattle.bac_objects.specs.declared.fault.Fault.TheVariants.{UnknownObject, UnknownProperty, NotArray, WriteDenied}
use Rattle.bac_objects.specs.declared.fault.Fault.TheVariants.{BadType, BadValue}
use Rattle.bac_objects.specs.declared.object.Body.{Body}
use Rattle.bac_objects.specs.declared.object.Body.TheVariants as body
use Rattle.bac_objects.specs.declared.object.Logger.{Logger}
use Rattle.bac_objects.specs.declared.object.Object as object

-- ---- Present_Value

-- a Signed of 32 bits
abbrev pub is_i32 : ℤ → Bool
is_i32 (pos n) = nat_lt n (2 ^ 31)
is_i32 (negsuc n) = nat_lt n (2 ^ 31)

-- What a value puts into a slot: Null relinquishes it. Another type comes before a value outside the range.
abbrev pub setting_of : Range → Primitive → Result (Option Setting) Fault
setting_of r Null = Ok None
setting_of range.Binary (Enumerated n) = if nat_lt n 2 then Ok (Some (setting.Enumerated n)) else Err BadValue
setting_of (range.Multistate states) (Unsigned n) =
    if nat_le 1 n && nat_le n states then Ok (Some (setting.Unsigned n)) else Err BadValue
setting_of range.Integer (Signed z) = if is_i32 z then Ok (Some (setting.Signed z)) else Err BadValue
setting_of r value = Err BadType

-- without one, the lowest (19.2)
abbrev pub priority_of : PropertyWrite → ℕ
priority_of w = unwrap_or w.priority 16

-- Present_Value alone may be written, and not at priority 6, which is that of minimum on and off times.
abbrev pub command_written : PropertyWrite → Command → Result Command Fault
command_written w c = if not (w.property == 85) || (priority_of w == 6) then Err WriteDenied else (do
  slot ← setting_of c.range w.value
  Ok (record c { slots = slice_set c.slots (priority_of w - 1) slot }))

-- ---- Enable and Record_Count (12.25)

-- a step that logs a record, as long as a sequence number is left
abbrev pub unless_full : Log → Log → Result Log Fault
unless_full log next = if newest log == last_ordinal then Err WriteDenied else Ok next

-- A changed Enable is logged; the value that is there changes nothing.
abbrev pub enabled : CivilTime → Primitive → Log → Result Log Fault
enabled clock (Boolean value) log =
    if is_change log.enabled value then unless_full log (enables value clock log) else Ok log
enabled clock value log = Err BadType

-- Record_Count is set to 0 alone, and that empties the log and is logged.
abbrev pub purged : CivilTime → Primitive → Log → Result Log Fault
purged clock (Unsigned n) log = if n == 0 then unless_full log (purges clock log) else Err BadValue
purged clock value log = Err BadType

-- Without regard to the priority, and what is logged has the device's clock.
abbrev pub records_written : CivilTime → PropertyWrite → Log → Result Log Fault
records_written clock w log =
    if w.property == 133 then enabled clock w.value log else
    if w.property == 141 then purged clock w.value log else Err WriteDenied

-- a Trend Log after a write to its records: source and interval stay
abbrev pub log_written : CivilTime → PropertyWrite → Logger → Result Logger Fault
log_written clock w l = do
  log ← records_written clock w l.log
  Ok (record l { log = log })

-- ---- objects

-- an object's own properties after a write, by its kind
abbrev pub body_written : CivilTime → PropertyWrite → Body → Result Body Fault
body_written clock w (body.Command c) = do
  new ← command_written w c
  Ok (body.Command new)
body_written clock w (body.Log l) = do
  new ← log_written clock w l
  Ok (body.Log new)

-- whether an index may be given
abbrev pub is_array : Shown → Bool
is_array (Array vs) = true
is_array shown = false

-- no index, or one into an array
abbrev pub unindexed : Shown → Option ℕ → Result (Unit {0}) Fault
unindexed shown None = Ok tt
unindexed shown (Some index) = if is_array shown then Ok tt else Err NotArray

-- the property is there, and an index only if it is an array
abbrev pub checked : Option Shown → Option ℕ → Result (Unit {0}) Fault
checked None index = Err UnknownProperty
checked (Some shown) index = unindexed shown index

-- an object after a write, or the first fault: of the property, of the index, of the value
abbrev pub object_written : CivilTime → PropertyWrite → object.Object → Result object.Object Fault
object_written clock w o = do
  ok ← checked (row w.property (object_table w.object o)) w.index
  new ← body_written clock w o.body
  Ok (record o { body = new })

-- ---- the device

-- the device's own identifier
abbrev pub is_device : State → Id → Bool
is_device d id = (id.kind == 8) && (id.instance == d.instance)

-- none of the device's own properties may be written
abbrev pub refusal : Result (Unit {0}) Fault → Fault
refusal (Ok ok) = WriteDenied
refusal (Err fault) = fault

-- the device after a write, or why the write is refused
abbrev pub write_of : State → PropertyWrite → Result State Fault
write_of d w = if is_device d w.object then Err (refusal (checked (row w.property (device_table d)) w.index)) else (do
  o ← or_fault (lookup (is_id w.object) d.objects) UnknownObject
  new ← object_written d.clock w o
  Ok (record d { objects = set_value (is_id w.object) d.objects new }))
