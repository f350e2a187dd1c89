-- Which line is to mend if lines make no device: the first with a fault.
use Rattle.std.specs.Prelude.{◌≡◌, ◌⊎◌, ℕ, if◌then◌else◌, List, [], ◌∷◌, ◌++◌, Option, None, Some}
use Rattle.std.specs.List.{find}
use Rattle.std.specs.Option.{option_map}
use Rattle.std.specs.Str.{bytes_eq}
use Rattle.bac_objects.specs.Build.{build_fault, device_fault, object_fault, objects_fault}
use Rattle.bac_objects.specs.Build.{instance_of, kind_of, name_of}
use Rattle.bac_objects.specs.declared.build.BuildFault.{BuildFault}
use Rattle.bac_objects.specs.declared.build.BuildFault.TheVariants.{DuplicateName}
use Rattle.bac_objects.specs.declared.build.Faulty.{Faulty}
use Rattle.bac_objects.specs.declared.build.Misfit.{Misfit}
use Rattle.bac_objects.specs.declared.lines.DeviceLine.{DeviceLine}
use Rattle.bac_objects.specs.declared.lines.LineId.{LineId}
use Rattle.bac_objects.specs.declared.lines.ObjectLine.{ObjectLine}

-- the device's line, by its type, device (clause 21, BACnetObjectType), and its instance
abbrev pub device_line : DeviceLine → LineId
device_line device = record { object_type = 8; instance = device.instance }

-- an object's line
abbrev pub object_line : ObjectLine → LineId
object_line line = record { object_type = kind_of line; instance = instance_of line }

-- the line with this name before an object's line: the device's, else the first of these object lines
abbrev pub earlier_named : DeviceLine → List ObjectLine → List ℕ → Option LineId
earlier_named device before name =
    if bytes_eq name device.name then Some (device_line device)
    else option_map object_line (find (λ line. bytes_eq name (name_of line)) before)

-- the line that has the same name as an object's line, if that is its fault
abbrev pub namesake_of : BuildFault → DeviceLine → List ObjectLine → ObjectLine → Option LineId
namesake_of DuplicateName device before line = earlier_named device before (name_of line)
namesake_of fault device before line = None

-- the device's line has a fault
pub record IsDeviceMisfit (device : DeviceLine) (m : Misfit) : Type 0 where
  pub fault : device_fault device ≡ Some m.fault
  pub line : m.line ≡ device_line device
  pub namesake : m.namesake ≡ None

-- an object's line has a fault, and none before it, the device's included, has one
pub record IsObjectMisfit (device : DeviceLine) (lines : List ObjectLine) (m : Misfit) : Type 0 where
  pub before : List ObjectLine
  pub faulty : ObjectLine
  pub after : List ObjectLine
  pub split : lines ≡ before ++ faulty ∷ after
  pub first : build_fault device before ≡ None
  pub fault : object_fault device before faulty ≡ Some m.fault
  pub line : m.line ≡ object_line faulty
  pub namesake : m.namesake ≡ namesake_of m.fault device before faulty

-- the first line with a fault, and that fault
abbrev pub IsMisfit : DeviceLine → List ObjectLine → Misfit → Type 0
IsMisfit device lines m = IsDeviceMisfit device m ⊎ IsObjectMisfit device lines m

-- ---- what only private calls cite

-- an object's line with a fault, after object lines that have none
pub record IsFaulty (device : DeviceLine) (lines before : List ObjectLine) (line : ObjectLine)
    (fault : BuildFault) : Type 0 where
  pub after : List ObjectLine
  pub split : lines ≡ before ++ line ∷ after
  pub first : objects_fault device [] before ≡ None
  pub refused : object_fault device before line ≡ Some fault

-- the first object line with a fault, if one has
abbrev pub IsFirstFaulty : DeviceLine → List ObjectLine → Option Faulty → Type 0
IsFirstFaulty device lines None = objects_fault device [] lines ≡ None
IsFirstFaulty device lines (Some f) = IsFaulty device lines f.before.now f.line.now f.fault
