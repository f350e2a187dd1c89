-- An ACK is read back.
use Rattle.std.proofs.Common.{rules, ◌≡◌, ℕ, List, [], ◌∷◌, Option, Ok}
use Rattle.bac_wire.specs.Level.{IsLevel}
use Rattle.bac_wire.specs.Primitive.{Primitive, Id, Object, Enumerated}
use Rattle.bac_wire.proofs.Joins.{levels_join, value_level}
use Rattle.bac_apdu.specs.Adding.{value_octets}
use Rattle.bac_apdu.specs.Form.{Value, Mark, Inside, number_parameter}
use Rattle.bac_apdu.specs.FormReading.{form_at}
use Rattle.bac_apdu.specs.Service.ReadProperty.{IsProperty}
use Rattle.bac_apdu.specs.Service.ReadPropertyAck.{read_property_ack, property_ack_parameters}
use Rattle.bac_apdu.specs.declared.service.read_property_ack.ReadPropertyAck.{ReadPropertyAck}
use Rattle.bac_apdu.proofs.Forms.{form_again}
use Rattle.bac_apdu.proofs.Services.{property_ack_again}
use Rattle.bac_objects.specs.Reading.{values_octets, AreValid}
use Rattle.bac_device.specs.Answer.{ack_octets}

pub values_level : (vs : List Primitive) → AreValid vs → IsLevel (values_octets vs)
unfolding values_octets value_octets
values_level [] valid = search rules
values_level (v ∷ vs) valid = levels_join (value_octets v) (values_octets vs) (value_level v valid.0) (values_level vs valid.1)

pub ack_again : (object : Id) (property : ℕ) (index : Option ℕ) (vs : List Primitive) → IsProperty object property index → AreValid vs
    → form_at read_property_ack (ack_octets object property index (values_octets vs)) ≡ Ok (Value (Object object) ∷ Value (Enumerated property) ∷ number_parameter index ∷ Mark 3 ∷ Inside (values_octets vs) ∷ [])
ack_again object property index vs valid are =
    let a : ReadPropertyAck = record { object = object; property = property; index = index; values = record { ref_ptr = (0, 0); now = values_octets vs } } in
    form_again read_property_ack (ack_octets object property index (values_octets vs)) (property_ack_parameters a) (property_ack_again a valid (values_level vs are))
