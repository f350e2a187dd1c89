-- How properties are read (clause 15.5), and the octets of their values.
use Rattle.std.specs.Prelude.{◌≡◌, ◌<◌, ℕ, ◌+◌, ◌-◌, ◌==◌, nat_lt, List, [], ◌∷◌, ◌++◌, length, map, slice_get}
use Rattle.std.specs.Prelude.{if◌then◌else◌, Option, Some, None, Result, Ok, Err}
use Rattle.bac_wire.specs.Chain.{◌>>=◌}
use Rattle.bac_wire.specs.Canon.{IsValid}
use Rattle.bac_wire.specs.Primitive.{Primitive, Unsigned, Enumerated, Object, Id}
use Rattle.bac_wire.specs.View.{view, IsWellFormed}
use Rattle.bac_apdu.specs.Adding.{context_octets, value_octets}
use Rattle.bac_apdu.specs.declared.service.read_property.ReadProperty.{ReadProperty}
use Rattle.bac_objects.specs.Chain.{or_fault}
use Rattle.bac_objects.specs.Properties.{Shown, One, Several, Array, Reference, Records, object_list, row, slot_value}
use Rattle.bac_objects.specs.Properties.{table_at}
use Rattle.bac_objects.specs.State.{State}
use Rattle.bac_objects.specs.declared.fault.Fault.{Fault}
use Rattle.bac_objects.specs.declared.fault.Fault.TheVariants.{UnknownProperty, NotArray, BadIndex, ReadDenied}
use Rattle.bac_objects.specs.declared.fault.Refused.{Refused}
use Rattle.bac_objects.specs.declared.fault.Refused.TheVariants as refused
use Rattle.bac_objects.specs.declared.property.Property.{Property}
use Rattle.bac_objects.specs.declared.property.Property.TheVariants as code

-- ---- octets of values

-- values one after the other, each in its shortest encoding
unfoldable pub values_octets : List Primitive → List ℕ
values_octets [] = []
values_octets (v ∷ vs) = value_octets v ++ values_octets vs

-- a reference to a property of this device that is no array (BACnetDeviceObjectPropertyReference, clause 21)
unfoldable pub reference_octets : Id → ℕ → List ℕ
reference_octets object property = context_octets 0 (Object object) ++ context_octets 1 (Enumerated property)

-- each has an encoding
abbrev pub AreValid : List Primitive → Type 0
AreValid [] = Unit {0}
AreValid (v ∷ vs) = IsValid v × AreValid vs

-- ---- what is read

-- Without an index all values; with one, that element of an array, and with index 0 their number (12.1.5).
abbrev pub elements : Shown → Option ℕ → Result (List ℕ) Fault
elements (One v) None = Ok (values_octets (v ∷ []))
elements (Several vs) None = Ok (values_octets vs)
elements (Array vs) None = Ok (values_octets vs)
elements (Array vs) (Some index) = if index == 0 then Ok (values_octets (Unsigned (length vs) ∷ [])) else (do
  v ← or_fault (slice_get vs (index - 1)) BadIndex
  Ok (values_octets (v ∷ [])))
elements (Reference object property) None = Ok (reference_octets object property)
elements Records None = Err ReadDenied
elements shown (Some index) = Err NotArray

-- the octets of a property that an object may have
abbrev pub elements_of : Option Shown → Option ℕ → Result (List ℕ) Fault
elements_of None index = Err UnknownProperty
elements_of (Some shown) index = elements shown index

-- The octets of the values that a request asks for, or the first fault: the object isn't there, it lacks the property,
-- an index into what is no array, no such element, records of a log.
abbrev pub read_of : State → ReadProperty → Result (List ℕ) Fault
read_of d r = do
  table ← table_at d r.object
  elements_of (row r.property table) r.index

-- octets, if they fit a datagram
abbrev pub fitted : Result (List ℕ) Fault → Result (List ℕ) Refused
fitted (Ok octets) = if nat_lt 1501 (length octets) then Err refused.TooLong else Ok octets
fitted (Err fault) = Err (refused.Fault fault)

-- the octets that a datagram holds if they were written, or why they weren't
abbrev pub told : Result (Unit {0}) Refused → List ℕ → Result (List ℕ) Refused
told (Ok done) octets = Ok octets
told (Err why) octets = Err why

-- A value is appended, or it doesn't fit a datagram.
abbrev pub Appends : List ℕ → Primitive → Result (Unit {0}) Refused → List ℕ → Type 0
Appends old v (Ok done) new = (new ≡ old ++ value_octets v) × (length new < 1502)
Appends old v (Err fault) new = (fault ≡ refused.TooLong) × (1501 < length old + length (value_octets v))

-- ---- the code's properties

-- a property of the code as one of a table
abbrev pub shown_of : Property → Shown
shown_of (code.One v) = One (view v)
shown_of code.Nothing = Several []
shown_of (code.Slots slots) = Array (map slot_value slots.now)
shown_of (code.Objects d) = Array (object_list d.now)
shown_of (code.Reference object property) = Reference object property
shown_of code.Records = Records

-- what can be written
abbrev pub CanBeWritten : Property → Type 0
CanBeWritten (code.One v) = IsWellFormed v
CanBeWritten p = Unit {0}
