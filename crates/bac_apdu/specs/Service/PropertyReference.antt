-- Object, property and index, with which the parameters of five services begin
-- (BACnetObjectPropertyReference, clause 21).
use Rattle.std.specs.Prelude.{ℕ, ◌^◌, ◌<◌, List, [], ◌∷◌, Option, Some, None}
use Rattle.bac_wire.specs.Canon.{IsValid}
use Rattle.bac_wire.specs.Primitive.{Id, Enumerated, Object}
use Rattle.bac_apdu.specs.Form.{Form, end, row, optional, context, anything, is_u32, unsigned, enumerated}
use Rattle.bac_apdu.specs.Form.{object_identifier, Parameter, Value, number_parameter}
use Rattle.bac_apdu.specs.FormCanon.{canon_form}

-- these three, and then the parameters of another form
abbrev pub property_then : Form → Form
property_then form =
    row (context 0 object_identifier anything)  -- object identifier
    (row (context 1 enumerated anything)  -- property identifier
    (optional 2 unsigned is_u32  -- property array index, optional
    form))

-- object, property and index as these parameters, and then the others
abbrev pub property_parameters_then : Id → ℕ → Option ℕ → List Parameter → List Parameter
property_parameters_then object property index parameters =
    Value (Object object) ∷ Value (Enumerated property) ∷ number_parameter index ∷ parameters

-- what is written of the three
unfoldable pub property_octets : Id → ℕ → Option ℕ → List ℕ
property_octets object property index =
    canon_form (property_then end) (property_parameters_then object property index [])

-- ---- each number in its range

-- a property array index, if there is one, has at most 32 bits
abbrev pub IsIndex : Option ℕ → Type 0
IsIndex None = Unit {0}
IsIndex (Some n) = n < 2 ^ 32

-- an object identifier that can be encoded, a property identifier of at most 32 bits, and such an index
abbrev pub IsProperty : Id → ℕ → Option ℕ → Type 0
IsProperty object property index = IsValid (Object object) × (property < 2 ^ 32) × IsIndex index
