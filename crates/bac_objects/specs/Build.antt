-- Which lines make a device, and which device they make.
use Rattle.std.specs.Prelude.{◌≡◌, ◌≤◌, ℕ, ◌==◌, ◌||◌, ◌&&◌, not, nat_lt, nat_le, Bool, if◌then◌else◌, List, [], ◌∷◌}
use Rattle.std.specs.Prelude.{◌++◌, map, length, Option, None, Some, Result, Ok, Err}
use Rattle.std.specs.List.{list_any}
use Rattle.std.specs.Option.{option_or}
use Rattle.std.specs.Str.{bytes_eq}
use Rattle.bac_wire.specs.Primitive.{Id}
use Rattle.bac_log.specs.TrendLog.{empty_log, last_ordinal}
use Rattle.bac_objects.specs.Command.{commanded}
use Rattle.bac_objects.specs.State.{State, is_id}
use Rattle.bac_objects.specs.declared.command.Setting.TheVariants as setting
use Rattle.bac_objects.specs.declared.command.Range.TheVariants as range
use Rattle.bac_objects.specs.declared.build.BuildFault.{BuildFault}
use Rattle.bac_objects.specs.declared.build.BuildFault.TheVariants.{BadInstance, DuplicateId, BadName, DuplicateName}
use Rattle.bac_objects.specs.declared.build.BuildFault.TheVariants.{BadStates, BadDefault, BadCapacity, BadInterval}
use Rattle.bac_objects.specs.declared.build.BuildFault.TheVariants.{BadReplySize, Memory}
use Rattle.bac_objects.specs.declared.lines.DeviceLine.{DeviceLine}
use Rattle.bac_objects.specs.declared.lines.ObjectLine.{ObjectLine}
use Rattle.bac_objects.specs.declared.lines.ObjectLine.TheVariants.{Binary, Multistate, Integer, Log}
use Rattle.bac_objects.specs.declared.object.Body.{Body}
use Rattle.bac_objects.specs.declared.object.Body.TheVariants as body
use Rattle.bac_objects.specs.declared.object.Object.{Object}

-- Control characters. In UTF-8 each is one octet, and no octet of another character is one of these.
abbrev pub is_control : ℕ → Bool
is_control octet = nat_lt octet 32 || octet == 127

-- a name has 1 to 64 octets, and none of them is a control character
abbrev pub is_name : List ℕ → Bool
is_name name = nat_le 1 (length name) && nat_le (length name) 64 && not (list_any is_control name)

-- ---- what every object line has

-- the number of an object's type (clause 21, BACnetObjectType)
abbrev pub kind_of : ObjectLine → ℕ
kind_of (Binary instance name default) = 5
kind_of (Multistate instance name states default) = 19
kind_of (Integer instance name default) = 45
kind_of (Log instance name source capacity interval logged) = 20

-- the instance number of an object's identifier
abbrev pub instance_of : ObjectLine → ℕ
instance_of (Binary instance name default) = instance
instance_of (Multistate instance name states default) = instance
instance_of (Integer instance name default) = instance
instance_of (Log instance name source capacity interval logged) = instance

-- the Object_Name
abbrev pub name_of : ObjectLine → List ℕ
name_of (Binary instance name default) = name
name_of (Multistate instance name states default) = name
name_of (Integer instance name default) = name
name_of (Log instance name source capacity interval logged) = name

-- the Object_Identifier
abbrev pub id_of : ObjectLine → Id
id_of line = record { kind = kind_of line; instance = instance_of line }

-- ---- faults

-- the fault of the first test that finds one
abbrev pub first_of : List (Bool × BuildFault) → Option BuildFault
first_of [] = None
first_of (test ∷ more) = if test.0 then Some test.1 else first_of more

-- whether one of the lines has this identifier
abbrev pub has_id : Id → List ObjectLine → Bool
has_id id lines = list_any (λ line. is_id id (id_of line)) lines

-- whether one of the lines has this name
abbrev pub has_name : List ℕ → List ObjectLine → Bool
has_name name lines = list_any (λ line. bytes_eq name (name_of line)) lines

-- A log holds 1 to 65535 records, and is sampled every second at most.
abbrev pub log_tests : ℕ → ℕ → List (Bool × BuildFault)
log_tests capacity interval =
    (nat_lt capacity 1 || nat_lt 65535 capacity, BadCapacity)
    ∷ (nat_lt 0 interval && nat_lt interval 100, BadInterval)
    ∷ []

-- the tests of what only lines of this kind say
abbrev pub own_tests : ObjectLine → List (Bool × BuildFault)
own_tests (Binary instance name default) = (nat_lt 1 default, BadDefault) ∷ []
own_tests (Multistate instance name states default) =
    (nat_lt states 1 || nat_lt 65535 states, BadStates) ∷ (nat_lt default 1 || nat_lt states default, BadDefault) ∷ []
own_tests (Integer instance name default) = []
own_tests (Log instance name source capacity interval logged) = log_tests capacity interval

-- the tests of an object line after the device's line; whether a line before it has the same identifier, or name
abbrev pub line_tests : DeviceLine → ObjectLine → Bool → Bool → List (Bool × BuildFault)
line_tests device line same_id same_name =
    (nat_lt 4194302 (instance_of line), BadInstance)
    ∷ (same_id, DuplicateId)
    ∷ (not (is_name (name_of line)), BadName)
    ∷ (bytes_eq (name_of line) device.name || same_name, DuplicateName)
    ∷ own_tests line

-- the first fault of an object line after the device's line and these object lines
abbrev pub object_fault : DeviceLine → List ObjectLine → ObjectLine → Option BuildFault
object_fault device before line =
    first_of (line_tests device line (has_id (id_of line) before) (has_name (name_of line) before))

-- the first fault of object lines after the device's line and these object lines
abbrev pub objects_fault : DeviceLine → List ObjectLine → List ObjectLine → Option BuildFault
objects_fault device before [] = None
objects_fault device before (line ∷ lines) =
    option_or (object_fault device before line) (objects_fault device (before ++ line ∷ []) lines)

-- the first fault of the device's line; the greatest APDU that it takes and sends has 50 to 1476 octets (20.1.2.5)
abbrev pub device_fault : DeviceLine → Option BuildFault
device_fault device = first_of (
    (nat_lt 4194302 device.instance, BadInstance)
    ∷ (not (is_name device.name), BadName)
    ∷ (nat_lt device.reply_size 50 || nat_lt 1476 device.reply_size, BadReplySize) ∷ [])

-- the first fault of all the lines, that of the device first
abbrev pub build_fault : DeviceLine → List ObjectLine → Option BuildFault
build_fault device lines = option_or (device_fault device) (objects_fault device [] lines)

-- ---- the device

-- what a line makes: an object that nobody has commanded yet, or an empty log
abbrev pub body_of : ObjectLine → Body
body_of (Binary instance name default) = body.Command (commanded range.Binary (setting.Enumerated default))
body_of (Multistate instance name states default) =
    body.Command (commanded (range.Multistate states) (setting.Unsigned default))
body_of (Integer instance name default) = body.Command (commanded range.Integer (setting.Signed default))
body_of (Log instance name source capacity interval logged) =
    body.Log (record { source = source; interval = interval; log = empty_log capacity logged })

-- so many records were logged before as a number of 64 bits can count
abbrev pub IsCounted : ObjectLine → Type 0
IsCounted (Binary instance name default) = Unit {0}
IsCounted (Multistate instance name states default) = Unit {0}
IsCounted (Integer instance name default) = Unit {0}
IsCounted (Log instance name source capacity interval logged) = logged ≤ last_ordinal

-- the object of a line with its identifier
abbrev pub entry_of : ObjectLine → Id × Object
entry_of line = (id_of line, record { name = name_of line; body = body_of line })

-- the device that lines without a fault describe
abbrev pub built : DeviceLine → List ObjectLine → State
built device lines =
    record {
      instance = device.instance;
      name = device.name;
      vendor = device.vendor;
      reply_size = device.reply_size;
      origin = device.clock;
      clock = device.clock;
      objects = map entry_of lines;
    }

-- Lines with this fault are refused so. Only lines without a fault can run out of memory.
abbrev pub Refuses : BuildFault → Option BuildFault → Type 0
Refuses Memory said = said ≡ None
Refuses fault said = said ≡ Some fault

-- the first fault that was found in lines whose first fault is this, or none: they are refused so, or have none
abbrev pub Finds : Option BuildFault → Option BuildFault → Type 0
Finds None said = said ≡ None
Finds (Some fault) said = Refuses fault said

-- what building answers
abbrev pub Builds : Result State BuildFault → DeviceLine → List ObjectLine → Type 0
Builds (Ok state) device lines = (build_fault device lines ≡ None) × (state ≡ built device lines)
Builds (Err fault) device lines = Refuses fault (build_fault device lines)
