-- ReadProperty (clauses 15.5 and 21): the parameters of the request, and what it shows of its fields.
use Rattle.std.specs.Prelude.{ℕ, List, [], Result}
use Rattle.bac_apdu.specs.declared.service.read_property.ReadProperty.{ReadProperty}
pub use Rattle.bac_apdu.specs.Service.PropertyReference.{IsIndex, IsProperty}
use Rattle.bac_apdu.specs.Service.PropertyReference.{property_then, property_parameters_then}
use Rattle.bac_apdu.specs.Form.{Form, end, Parameter}
use Rattle.bac_wire.specs.Chain.{result_map}
use Rattle.bac_apdu.specs.declared.reason.Reason.{Reason}
use Rattle.bac_apdu.specs.FormReading.{form_at}
use Rattle.bac_apdu.specs.Fields.{parameter_at, id_in, enumerated_in, number_in}

-- the parameters of a request (15.5)
abbrev pub read_property : Form
read_property = property_then end

-- a request as these parameters
abbrev pub property_parameters : ReadProperty → List Parameter
property_parameters p = property_parameters_then p.object p.property p.index []

-- ---- with named fields

-- the request that these parameters are
abbrev pub property_in : List Parameter → ReadProperty
property_in parameters = record {
  object = id_in (parameter_at 0 parameters);
  property = enumerated_in (parameter_at 1 parameters);
  index = number_in (parameter_at 2 parameters);
}

-- the request that parameters are the encoding of, or the reason of the first that is wrong
unfoldable pub read_property_at : List ℕ → Result ReadProperty Reason
read_property_at bytes = result_map property_in (form_at read_property bytes)
