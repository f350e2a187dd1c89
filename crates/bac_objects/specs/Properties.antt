-- The properties of each object (clause 12), a row for each, in the order of the standard's tables.
use Rattle.std.specs.Prelude.{ℕ, ◌==◌, ◌&&◌, ◌||◌, Bool, false, List, [], ◌∷◌, length, map, codes, if◌then◌else◌}
use Rattle.std.specs.Prelude.{Option, Some, None, Result, Ok}
use Rattle.std.specs.Map.{lookup, keys_of}
use Rattle.bac_wire.specs.Chain.{◌>>=◌}
use Rattle.bac_wire.specs.Primitive.{Primitive, Null, Boolean, Unsigned, Signed, Enumerated, Bits, Chars, Date, Time}
use Rattle.bac_wire.specs.Primitive.{Object, Id}
use Rattle.bac_wire.specs.Stamp.{date_of, time_of, date_octets, time_octets}
use Rattle.bac_log.specs.TrendLog.{total_of}
use Rattle.bac_objects.specs.Bits.{services_supported, types_supported}
use Rattle.bac_objects.specs.Chain.{or_fault}
use Rattle.bac_objects.specs.Command.{present}
use Rattle.bac_objects.specs.State.{State, is_id}
use Rattle.bac_objects.specs.declared.command.Setting.{Setting}
use Rattle.bac_objects.specs.declared.command.Setting.TheVariants as setting
use Rattle.bac_objects.specs.declared.command.Range.{Range}
use Rattle.bac_objects.specs.declared.command.Range.TheVariants as range
use Rattle.bac_objects.specs.declared.command.Command.{Command}
use Rattle.bac_objects.specs.declared.fault.Fault.{Fault}
use Rattle.bac_objects.specs.declared.fault.Fault.TheVariants.{UnknownObject}
use Rattle.bac_objects.specs.declared.object.Body.{Body}
use Rattle.bac_objects.specs.declared.object.Body.TheVariants as body
use Rattle.bac_objects.specs.declared.object.Logger.{Logger}
use Rattle.bac_objects.specs.declared.object.Object as object

-- What a property is: one value, a list, or an array, whose elements have an index; the object and the property of a
-- reference (BACnetDeviceObjectPropertyReference, clause 21); or records, which ReadRange alone reads.
pub data Shown : Type 0 where
  One : Primitive → Shown
  Several : List Primitive → Shown
  Array : List Primitive → Shown
  Reference : Id → ℕ → Shown
  Records : Shown

-- the number of a property (clause 21, BACnetPropertyIdentifier), and what it is
abbrev pub Row : Type 0
Row = ℕ × Shown

-- a character string in UTF-8
abbrev pub text : List ℕ → Shown
text octets = One (Chars 0 octets)

-- ---- what every object has

-- identifier, name and type, and then the object's further properties
abbrev pub common : Id → List ℕ → List Row → List Row
common id name more =
    (75, One (Object id))  -- Object_Identifier
    ∷ (77, text name)  -- Object_Name
    ∷ (79, One (Enumerated id.kind))  -- Object_Type
    ∷ more

-- ---- commandable objects (12.8 Binary Value, 12.20 Multi-state Value, 12.43 Integer Value)

-- a setting as the value of its type
abbrev pub value_of : Setting → Primitive
value_of (setting.Enumerated n) = Enumerated n
value_of (setting.Unsigned n) = Unsigned n
value_of (setting.Signed z) = Signed z

-- a priority without a value is Null
abbrev pub slot_value : Option Setting → Primitive
slot_value None = Null
slot_value (Some setting) = value_of setting

-- what only objects of this type have
abbrev pub further : Range → List Row
further range.Binary = []
further (range.Multistate states) = (74, One (Unsigned states)) ∷ []  -- Number_Of_States
further range.Integer = (117, One (Enumerated 95)) ∷ []  -- Units: no units

-- what each commandable object has
abbrev pub command_rows : Command → List Row
command_rows c =
    (85, One (value_of (present c.slots c.default)))  -- Present_Value
    ∷ (111, One (Bits (false ∷ false ∷ false ∷ false ∷ [])))  -- Status_Flags
    ∷ (36, One (Enumerated 0))  -- Event_State: normal
    ∷ (81, One (Boolean false))  -- Out_Of_Service
    ∷ (87, Array (map slot_value c.slots))  -- Priority_Array
    ∷ (104, One (value_of c.default))  -- Relinquish_Default
    ∷ further c.range

-- ---- trend logs (12.25)

-- what a Trend Log has
abbrev pub log_rows : Logger → List Row
log_rows l =
    (133, One (Boolean l.log.enabled))  -- Enable
    ∷ (144, One (Boolean false))  -- Stop_When_Full
    ∷ (126, One (Unsigned l.log.capacity))  -- Buffer_Size
    ∷ (131, Records)  -- Log_Buffer
    ∷ (141, One (Unsigned (length l.log.entries)))  -- Record_Count
    ∷ (145, One (Unsigned (total_of l.log)))  -- Total_Record_Count
    ∷ (197, One (Enumerated 0))  -- Logging_Type: polled
    ∷ (132, Reference l.source 85)  -- Log_DeviceObjectProperty: the Present_Value of the source
    ∷ (134, One (Unsigned l.interval))  -- Log_Interval, in hundredths of a second
    ∷ (111, One (Bits (false ∷ false ∷ false ∷ false ∷ [])))  -- Status_Flags
    ∷ (36, One (Enumerated 0))  -- Event_State: normal
    ∷ []

-- what an object has, by its kind
abbrev pub body_rows : Body → List Row
body_rows (body.Command c) = command_rows c
body_rows (body.Log l) = log_rows l

-- all properties of an object
abbrev pub object_table : Id → object.Object → List Row
object_table id o = common id o.name (body_rows o.body)

-- ---- the device (12.11)

-- the identifier of the device: object type 8
abbrev pub device_id : State → Id
device_id d = record { kind = 8; instance = d.instance }

-- the device first, then the objects in the order of their lines
abbrev pub object_list : State → List Primitive
object_list d = Object (device_id d) ∷ map (λ id. Object id) (keys_of d.objects)

-- all properties of the device
abbrev pub device_table : State → List Row
device_table d = common (device_id d) d.name (
    (112, One (Enumerated 0))  -- System_Status: operational
    ∷ (121, text (codes "own"))  -- Vendor_Name
    ∷ (120, One (Unsigned d.vendor))  -- Vendor_Identifier
    ∷ (70, text (codes "bac"))  -- Model_Name
    ∷ (44, text (codes "1"))  -- Firmware_Revision
    ∷ (12, text (codes "1"))  -- Application_Software_Version
    ∷ (98, One (Unsigned 1))  -- Protocol_Version
    ∷ (139, One (Unsigned 12))  -- Protocol_Revision
    ∷ (97, One (Bits services_supported))  -- Protocol_Services_Supported
    ∷ (96, One (Bits types_supported))  -- Protocol_Object_Types_Supported
    ∷ (76, Array (object_list d))  -- Object_List
    ∷ (62, One (Unsigned d.reply_size))  -- Max_APDU_Length_Accepted
    ∷ (107, One (Enumerated 3))  -- Segmentation_Supported: none
    ∷ (11, One (Unsigned 3000))  -- APDU_Timeout, in milliseconds
    ∷ (73, One (Unsigned 3))  -- Number_Of_APDU_Retries
    ∷ (30, Several [])  -- Device_Address_Binding
    ∷ (155, One (Unsigned 1))  -- Database_Revision
    ∷ (56, One (Date (date_octets (date_of d.clock))))  -- Local_Date
    ∷ (57, One (Time (time_octets (time_of d.clock))))  -- Local_Time
    ∷ [])

-- ---- looking up

-- this device, also under the instance 4194303, which stands for the device that is asked (15.5.2)
abbrev pub is_here : State → Id → Bool
is_here d id = (id.kind == 8) && ((id.instance == d.instance) || (id.instance == 4194303))

-- the table of an object
abbrev pub table_at : State → Id → Result (List Row) Fault
table_at d id = if is_here d id then Ok (device_table d) else (do
  o ← or_fault (lookup (is_id id) d.objects) UnknownObject
  Ok (object_table id o))

-- what a table has under a number
abbrev pub row : ℕ → List Row → Option Shown
row property table = lookup (λ number. property == number) table
