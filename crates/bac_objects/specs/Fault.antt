-- The numbers of errors (clause 18, and BACnet-Error of clause 21).
use Rattle.std.specs.Prelude.{ℕ}
use Rattle.bac_objects.specs.declared.fault.Fault.{Fault}
use Rattle.bac_objects.specs.declared.fault.Fault.TheVariants.{UnknownObject, UnknownProperty, NotArray, BadIndex}
use Rattle.bac_objects.specs.declared.fault.Fault.TheVariants.{ReadDenied, NotList, WriteDenied, BadType, BadValue}

-- object, services or property
abbrev pub class_of : Fault → ℕ
class_of UnknownObject = 1
class_of NotList = 5
class_of fault = 2

-- unknown-object, unknown-property, property-is-not-an-array, invalid-array-index, read-access-denied,
-- property-is-not-a-list, write-access-denied, invalid-data-type, value-out-of-range
abbrev pub code_of : Fault → ℕ
code_of UnknownObject = 31
code_of UnknownProperty = 32
code_of NotArray = 50
code_of BadIndex = 42
code_of ReadDenied = 27
code_of NotList = 22
code_of WriteDenied = 40
code_of BadType = 9
code_of BadValue = 37
