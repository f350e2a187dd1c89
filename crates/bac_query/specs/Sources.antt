-- What a trend log logs, its Log_DeviceObjectProperty: a BACnetDeviceObjectPropertyReference (clause 21), and its text.
use Rattle.std.specs.Prelude.{ℕ, List, [], ◌∷◌, ◌++◌, codes, decimal, if◌then◌else◌, Option, Some, None, Result, Ok}
use Rattle.std.specs.Prelude.{Err}
use Rattle.bac_wire.specs.Chain.{◌>>=◌}
use Rattle.bac_wire.specs.Next.{value_next}
use Rattle.bac_wire.specs.Primitive.{Id, Primitive, Unsigned, Enumerated, Object}
use Rattle.bac_wire.specs.Reading.{contents_as, context_at}
use Rattle.bac_wire.specs.declared.fault.WireFault.{WireFault}
use Rattle.bac_wire.specs.declared.fault.WireFault.TheVariants.{BadLength}
use Rattle.bac_query.specs.declared.source.Source.{Source}

-- ---- reading

-- a value of this type behind the context tag of this number, and what follows it (20.2.1.5)
abbrev pub tagged_at : ℕ → ℕ → List ℕ → Result (Primitive × List ℕ) WireFault
tagged_at tag type octets = do
  contents ← context_at tag octets
  value ← contents_as type contents.0
  Ok (value, contents.1)

-- the same, and that it is there
abbrev pub given_at : ℕ → ℕ → List ℕ → Result (Option Primitive × List ℕ) WireFault
given_at tag type octets = do
  given ← tagged_at tag type octets
  Ok (Some given.0, given.1)

-- a value that may be left out
abbrev pub maybe_at : ℕ → ℕ → List ℕ → Result (Option Primitive × List ℕ) WireFault
maybe_at tag type octets = if value_next tag octets then given_at tag type octets else Ok (None, octets)

-- an object, a property of it, the index of an element if that is an array, and the device that has them if it is said
pub record Reference : Type 0 where
  pub object : Primitive
  pub property : Primitive
  pub index : Option Primitive
  pub device : Option Primitive

-- nothing follows
abbrev pub ended_at : Reference → List ℕ → Result Reference WireFault
ended_at reference [] = Ok reference
ended_at reference (octet ∷ octets) = Err BadLength

-- the four, one after the other: types 12, 9, 2 and 12 are Object Identifier, Enumerated, Unsigned and Object
-- Identifier
unfoldable pub reference_at : List ℕ → Result Reference WireFault
reference_at octets = do
  object ← tagged_at 0 12 octets
  property ← tagged_at 1 9 object.1
  index ← maybe_at 2 2 property.1
  device ← maybe_at 3 12 index.1
  ended_at (record { object = object.0; property = property.0; index = index.0; device = device.0 }) device.1

-- ---- the code's

-- a number that may be left out
abbrev pub maybe_number : Option ℕ → Option Primitive
maybe_number None = None
maybe_number (Some n) = Some (Unsigned n)

-- an object that may be left out
abbrev pub maybe_object : Option Id → Option Primitive
maybe_object None = None
maybe_object (Some id) = Some (Object id)

-- the reference that the code holds
abbrev pub reference_of : Source → Reference
reference_of source = record {
  object = Object source.object;
  property = Enumerated source.property;
  index = maybe_number source.index;
  device = maybe_object source.device;
}

-- ---- its text

-- [N]
abbrev pub index_text : Option ℕ → List ℕ
index_text None = []
index_text (Some n) = 91 ∷ (decimal n ++ 93 ∷ [])

-- @INSTANCE of the device
abbrev pub device_text : Option Id → List ℕ
device_text None = []
device_text (Some device) = 64 ∷ decimal device.instance

-- object(TYPE,INSTANCE)
abbrev pub object_text : Id → List ℕ
object_text id = codes "object(" ++ (decimal id.kind ++ (44 ∷ (decimal id.instance ++ 41 ∷ [])))

-- object(TYPE,INSTANCE).PROPERTY, and behind it the index and the device
unfoldable pub source_text : Source → List ℕ
source_text source =
    object_text source.object
    ++ (46 ∷ (decimal source.property ++ (index_text source.index ++ device_text source.device)))
