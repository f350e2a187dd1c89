-- ReadRange (clauses 15.8 and 21): its parameters, and what a request shows of its fields.
use Rattle.std.specs.Prelude.{ℕ, List, drop, Result}
use Rattle.bac_apdu.specs.declared.service.read_range.ReadRange.{ReadRange}
use Rattle.bac_apdu.specs.Service.PropertyReference.{property_then, property_parameters_then, IsProperty}
use Rattle.bac_apdu.specs.Form.{Form, Parameter}
use Rattle.bac_apdu.specs.Service.Extent.{range, extent_parameters, extent_in, IsExtent}
use Rattle.bac_wire.specs.Chain.{result_map}
use Rattle.bac_apdu.specs.declared.reason.Reason.{Reason}
use Rattle.bac_apdu.specs.FormReading.{form_at}
use Rattle.bac_apdu.specs.Fields.{parameter_at, id_in, enumerated_in, number_in}

-- the parameters of a request (15.8)
abbrev pub read_range : Form
read_range = property_then range  -- range, optional

-- a request as these parameters
abbrev pub range_parameters : ReadRange → List Parameter
range_parameters r = property_parameters_then r.object r.property r.index (extent_parameters r.extent)

-- each number in its range
abbrev pub IsRange : ReadRange → Type 0
IsRange r = IsProperty r.object r.property r.index × IsExtent r.extent

-- ---- with named fields

-- the request that these parameters are
abbrev pub range_in : List Parameter → ReadRange
range_in parameters =
    record {
      object = id_in (parameter_at 0 parameters);
      property = enumerated_in (parameter_at 1 parameters);
      index = number_in (parameter_at 2 parameters);
      extent = extent_in (drop 3 parameters);
    }

-- the request that parameters are the encoding of, or the reason of the first that is wrong
unfoldable pub read_range_at : List ℕ → Result ReadRange Reason
read_range_at bytes = result_map range_in (form_at read_range bytes)
