-- What a trend log logs, its Log_DeviceObjectProperty: a BACnetDeviceObjectPropertyReference (clause 21).
use Rattle.std.specs.Prelude.{ℕ, if◌then◌else◌, List, [], ◌∷◌, Option, None, Some, Result, Ok, Err}
use Rattle.bac_wire.specs.Chain.{◌>>=◌}
use Rattle.bac_wire.specs.Next.{value_next}
use Rattle.bac_wire.specs.Primitive.{Enumerated, Id, Object, Primitive, Unsigned}
use Rattle.bac_wire.specs.Reading.{contents_as, context_at}
use Rattle.bac_wire.specs.declared.fault.WireFault.{WireFault}
use Rattle.bac_wire.specs.declared.fault.WireFault.TheVariants.{BadContents, BadLength}
use Rattle.bac_answers.specs.declared.entry.Reference.{Reference}

-- an object identifier (type 12)
abbrev pub as_object : Primitive → Result Id WireFault
as_object (Object id) = Ok id
as_object other = Err BadContents

-- an Enumerated (type 9)
abbrev pub as_enumerated : Primitive → Result ℕ WireFault
as_enumerated (Enumerated n) = Ok n
as_enumerated other = Err BadContents

-- an Unsigned (type 2)
abbrev pub as_unsigned : Primitive → Result ℕ WireFault
as_unsigned (Unsigned n) = Ok n
as_unsigned other = Err BadContents

-- the object behind the context tag of this number, and what follows it (20.2.1.5)
abbrev pub object_at : ℕ → List ℕ → Result (Id × List ℕ) WireFault
object_at tag octets = do
  contents ← context_at tag octets
  value ← contents_as 12 contents.0
  object ← as_object value
  Ok (object, contents.1)

-- a property
abbrev pub property_at : ℕ → List ℕ → Result (ℕ × List ℕ) WireFault
property_at tag octets = do
  contents ← context_at tag octets
  value ← contents_as 9 contents.0
  property ← as_enumerated value
  Ok (property, contents.1)

-- a number
abbrev pub number_at : ℕ → List ℕ → Result (ℕ × List ℕ) WireFault
number_at tag octets = do
  contents ← context_at tag octets
  value ← contents_as 2 contents.0
  number ← as_unsigned value
  Ok (number, contents.1)

-- something that may be left out
abbrev pub given : {A : Type 0} → Result (A × List ℕ) WireFault → Result (Option A × List ℕ) WireFault
given (Ok found) = Ok (Some found.0, found.1)
given (Err fault) = Err fault

-- the index of an element
abbrev pub maybe_index : ℕ → List ℕ → Result (Option ℕ × List ℕ) WireFault
maybe_index tag octets = if value_next tag octets then given (number_at tag octets) else Ok (None, octets)

-- the device that has the object
abbrev pub maybe_device : ℕ → List ℕ → Result (Option Id × List ℕ) WireFault
maybe_device tag octets = if value_next tag octets then given (object_at tag octets) else Ok (None, octets)

-- nothing follows
abbrev pub ended : Reference → List ℕ → Result Reference WireFault
ended reference [] = Ok reference
ended reference (octet ∷ octets) = Err BadLength

-- the four, one after the other
unfoldable pub reference_at : List ℕ → Result Reference WireFault
reference_at octets = do
  object ← object_at 0 octets
  property ← property_at 1 object.1
  index ← maybe_index 2 property.1
  device ← maybe_device 3 index.1
  ended (record { object = object.0; property = property.0; index = index.0; device = device.0 }) device.1

-- the reference that a reading gave
abbrev pub read_as : Result Reference WireFault → Option Reference
read_as (Ok reference) = Some reference
read_as (Err fault) = None

-- the same of what an answer tells
abbrev pub source_of : Option (List ℕ) → Option Reference
source_of None = None
source_of (Some octets) = read_as (reference_at octets)
