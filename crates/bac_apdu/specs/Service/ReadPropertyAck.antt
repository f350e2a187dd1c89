-- The ACK of ReadProperty (clauses 15.5 and 21): its parameters, and what it shows of its fields.
use Rattle.std.specs.Prelude.{ℕ, List, [], ◌∷◌, Option}
use Rattle.bac_wire.specs.Primitive.{Id}
use Rattle.bac_wire.specs.Level.{IsLevel}
use Rattle.bac_apdu.specs.declared.service.read_property_ack.ReadPropertyAck.{ReadPropertyAck}
use Rattle.bac_apdu.specs.FormCanon.{canon_form}
use Rattle.bac_apdu.specs.Service.PropertyReference.{property_then, property_parameters_then, IsProperty}
use Rattle.bac_apdu.specs.Form.{Form, end, row, opening, enclosed, Parameter, Mark, Inside}
use Rattle.std.specs.Option.{option_map}
use Rattle.std.specs.Result.{result_ok}
use Rattle.bac_apdu.specs.FormReading.{form_at}
use Rattle.bac_apdu.specs.Fields.{parameter_at, id_in, enumerated_in, number_in, octets_in}

-- the parameter Property Value: any values between the tags 3
abbrev pub values : Form
values =
    row (opening 3)  -- property value, opened
    (row (enclosed 3)  -- values, and the tag that closes
    end)

-- the parameters of the ACK (15.5)
abbrev pub read_property_ack : Form
read_property_ack = property_then values

-- the values of an ACK of the code, as parameters
abbrev pub value_parameters : ReadPropertyAck → List Parameter
value_parameters a = Mark 3 ∷ Inside a.values.now ∷ []

-- an ACK of the code as the parameters of the ACK
abbrev pub property_ack_parameters : ReadPropertyAck → List Parameter
property_ack_parameters a = property_parameters_then a.object a.property a.index (value_parameters a)

-- ---- with named fields

-- an answer, whatever memory holds its values
pub record PropertyAck : Type 0 where
  pub object : Id
  pub property : ℕ
  pub index : Option ℕ
  pub values : List ℕ

-- each number in its range, and whole tags as values, each level that they open closed
abbrev pub IsPropertyAck : PropertyAck → Type 0
IsPropertyAck a = IsProperty a.object a.property a.index × IsLevel a.values

-- an ACK of the code, apart from where its values lie in memory
abbrev pub property_ack_of : ReadPropertyAck → PropertyAck
property_ack_of a = record { object = a.object; property = a.property; index = a.index; values = a.values.now }

-- the answer that the parameters of an ACK are; the fourth is the opening tag, the fifth the values
abbrev pub property_ack_in : List Parameter → PropertyAck
property_ack_in parameters =
    record {
      object = id_in (parameter_at 0 parameters);
      property = enumerated_in (parameter_at 1 parameters);
      index = number_in (parameter_at 2 parameters);
      values = octets_in (parameter_at 4 parameters);
    }

-- the answer that parameters are the encoding of
unfoldable pub read_property_ack_at : List ℕ → Option PropertyAck
read_property_ack_at bytes = option_map property_ack_in (result_ok (form_at read_property_ack bytes))

-- ---- written

-- an answer as the parameters of the ACK
abbrev pub property_ack_fields : PropertyAck → List Parameter
property_ack_fields a = property_parameters_then a.object a.property a.index (Mark 3 ∷ Inside a.values ∷ [])

-- the parameters of an answer, each as short as can be
abbrev pub property_ack_octets : PropertyAck → List ℕ
property_ack_octets a = canon_form read_property_ack (property_ack_fields a)
