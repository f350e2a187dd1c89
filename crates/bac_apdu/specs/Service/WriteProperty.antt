-- WriteProperty (clauses 15.9 and 21): its parameters, and what a request shows of its fields.
use Rattle.std.specs.Prelude.{ℕ, ◌<◌, ◌&&◌, nat_lt, Bool, false, List, [], ◌∷◌, Option, Some, None, Result}
use Rattle.bac_wire.specs.Primitive.{Id, Primitive, Unsigned}
use Rattle.bac_wire.specs.View.{view}
use Rattle.bac_wire.specs.Canon.{IsValid}
use Rattle.bac_apdu.specs.declared.service.write_property.WriteProperty.{WriteProperty}
use Rattle.bac_apdu.specs.Service.PropertyReference.{property_then, property_parameters_then, IsProperty}
use Rattle.bac_apdu.specs.Form.{Form, end, row, optional, opening, closing, any, unsigned, Parameter, Value, Mark}
use Rattle.bac_apdu.specs.Form.{number_parameter}
use Rattle.bac_wire.specs.Chain.{result_map}
use Rattle.bac_apdu.specs.declared.reason.Reason.{Reason}
use Rattle.bac_apdu.specs.FormReading.{form_at}
use Rattle.bac_apdu.specs.Fields.{parameter_at, id_in, enumerated_in, number_in, value_in}

-- 1 to 16
abbrev pub is_priority : Primitive → Bool
is_priority (Unsigned n) = nat_lt 0 n && nat_lt n 17
is_priority value = false

-- Property Value, which is one value between the tags 3, and Priority
abbrev pub setting : Form
setting =
    row (opening 3)  -- property value, opened
    (row any  -- one value
    (row (closing 3)  -- and closed
    (optional 4 unsigned is_priority  -- priority, optional
    end)))

-- the parameters of a request (15.9)
abbrev pub write_property : Form
write_property = property_then setting

-- value and priority of a request of the code, as parameters
abbrev pub setting_parameters : WriteProperty → List Parameter
setting_parameters w = Mark 3 ∷ Value (view w.value) ∷ Mark 3 ∷ number_parameter w.priority ∷ []

-- a request of the code as the parameters of a request
abbrev pub write_parameters : WriteProperty → List Parameter
write_parameters w = property_parameters_then w.object w.property w.index (setting_parameters w)

-- a priority, if there is one, is 1 to 16 (clause 19.2)
abbrev pub IsPriority : Option ℕ → Type 0
IsPriority None = Unit {0}
IsPriority (Some n) = (0 < n) × (n < 17)

-- ---- with named fields

-- a request, whatever memory holds its value
pub record PropertyWrite : Type 0 where
  pub object : Id
  pub property : ℕ
  pub index : Option ℕ
  pub value : Primitive
  pub priority : Option ℕ

-- each number in its range, and a value that can be encoded
abbrev pub IsPropertyWrite : PropertyWrite → Type 0
IsPropertyWrite w = IsProperty w.object w.property w.index × IsValid w.value × IsPriority w.priority

-- a request of the code, apart from where its value lies in memory
abbrev pub write_of_code : WriteProperty → PropertyWrite
write_of_code w =
    record { object = w.object; property = w.property; index = w.index; value = view w.value; priority = w.priority }

-- the value is between an opening and a closing tag
abbrev pub write_in : List Parameter → PropertyWrite
write_in parameters =
    record {
      object = id_in (parameter_at 0 parameters);
      property = enumerated_in (parameter_at 1 parameters);
      index = number_in (parameter_at 2 parameters);
      value = value_in (parameter_at 4 parameters);
      priority = number_in (parameter_at 6 parameters);
    }

-- the request that parameters are the encoding of, or the reason of the first that is wrong
unfoldable pub write_property_at : List ℕ → Result PropertyWrite Reason
write_property_at bytes = result_map write_in (form_at write_property bytes)
