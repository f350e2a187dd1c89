-- I-Am (clauses 16.10 and 21): its parameters, and what an announcement shows of its fields.
use Rattle.std.specs.Prelude.{◌<◌, ◌^◌, Bool, true, false, ℕ, List, [], ◌∷◌, Option}
use Rattle.bac_wire.specs.Primitive.{Primitive, Unsigned, Enumerated, Object}
use Rattle.bac_wire.specs.Canon.{IsValid}
use Rattle.bac_apdu.specs.declared.service.i_am.IAm.{IAm}
use Rattle.bac_apdu.specs.Form.{Form, end, row, application, unsigned, enumerated, object_identifier, Parameter, Value}
use Rattle.std.specs.Option.{option_map}
use Rattle.std.specs.Result.{result_ok}
use Rattle.bac_apdu.specs.FormReading.{form_at}
use Rattle.bac_apdu.specs.Fields.{parameter_at, id_in, unsigned_in, enumerated_in}

-- any value of the type: a parameter's type is tested before its range

-- a BACnetObjectIdentifier
abbrev pub is_object : Primitive → Bool
is_object (Object id) = true
is_object value = false

-- an Unsigned
abbrev pub is_unsigned : Primitive → Bool
is_unsigned (Unsigned n) = true
is_unsigned value = false

-- an Enumerated
abbrev pub is_enumerated : Primitive → Bool
is_enumerated (Enumerated n) = true
is_enumerated value = false

-- the parameters of I-Am in order (16.10)
abbrev pub i_am : Form
i_am =
    row (application object_identifier is_object)  -- I-Am device identifier
    (row (application unsigned is_unsigned)  -- max APDU length accepted
    (row (application enumerated is_enumerated)  -- segmentation supported
    (row (application unsigned is_unsigned)  -- vendor identifier
    end)))

-- an announcement as these parameters
abbrev pub i_am_parameters : IAm → List Parameter
i_am_parameters a =
    Value (Object a.device) ∷ Value (Unsigned a.max_apdu) ∷ Value (Enumerated a.segmentation)
    ∷ Value (Unsigned a.vendor) ∷ []

-- each number in the range of its type
abbrev pub IsAnnouncement : IAm → Type 0
IsAnnouncement a = IsValid (Object a.device) × (a.max_apdu < 2 ^ 64) × (a.segmentation < 2 ^ 32) × (a.vendor < 2 ^ 64)

-- ---- with named fields

-- the announcement that these parameters are
abbrev pub i_am_in : List Parameter → IAm
i_am_in parameters =
    record {
      device = id_in (parameter_at 0 parameters);
      max_apdu = unsigned_in (parameter_at 1 parameters);
      segmentation = enumerated_in (parameter_at 2 parameters);
      vendor = unsigned_in (parameter_at 3 parameters);
    }

-- the announcement that parameters are the encoding of
unfoldable pub i_am_at : List ℕ → Option IAm
i_am_at bytes = option_map i_am_in (result_ok (form_at i_am bytes))
