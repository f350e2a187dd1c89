-- A parameter as a field of its service: its value if it has the type that the service
-- wants, and a default otherwise. In a service that was read, each has its type.
use Rattle.std.specs.Prelude.{ℕ, ℤ, pos, Bool, false, List, [], get_or, slice_index, Option, Some, None}
use Rattle.bac_wire.specs.Primitive.{Id, Primitive, Null, Unsigned, Signed, Bits, Enumerated, Date, Time, Object}
use Rattle.bac_wire.specs.declared.stamp.Date4.{Date4}
use Rattle.bac_wire.specs.declared.stamp.Time4.{Time4}
use Rattle.bac_apdu.specs.Form.{Parameter, Value, Mark, Inside, Absent}

-- the parameter at this place of the list
abbrev pub parameter_at : ℕ → List Parameter → Parameter
parameter_at place parameters = get_or parameters place Absent

-- an object identifier
abbrev pub id_in : Parameter → Id
id_in (Value (Object id)) = id
id_in parameter = record { kind = 0; instance = 0 }

-- the number of an Enumerated
abbrev pub enumerated_in : Parameter → ℕ
enumerated_in (Value (Enumerated n)) = n
enumerated_in parameter = 0

-- the number of an Unsigned
abbrev pub unsigned_in : Parameter → ℕ
unsigned_in (Value (Unsigned n)) = n
unsigned_in parameter = 0

-- of an optional parameter
abbrev pub number_in : Parameter → Option ℕ
number_in (Value (Unsigned n)) = Some n
number_in parameter = None

-- the number of a Signed
abbrev pub signed_in : Parameter → ℤ
signed_in (Value (Signed z)) = z
signed_in parameter = pos 0

-- a value of any type
abbrev pub value_in : Parameter → Primitive
value_in (Value value) = value
value_in parameter = Null

-- one bit of a Bit String
abbrev pub bit_in : ℕ → Parameter → Bool
bit_in place (Value (Bits bits)) = get_or bits place false
bit_in place parameter = false

-- what comes between an opening and a closing tag
abbrev pub octets_in : Parameter → List ℕ
octets_in (Inside octets) = octets
octets_in parameter = []

-- the parts of a date from its four octets (clause 20.2.12)
abbrev pub date_with : List ℕ → Date4
date_with octets = record {
  year = slice_index octets 0;
  month = slice_index octets 1;
  day = slice_index octets 2;
  weekday = slice_index octets 3;
}

-- a Date
abbrev pub date_in : Parameter → Date4
date_in (Value (Date octets)) = date_with octets
date_in parameter = date_with []

-- the parts of a time from its four octets (clause 20.2.13)
abbrev pub time_with : List ℕ → Time4
time_with octets = record {
  hour = slice_index octets 0;
  minute = slice_index octets 1;
  second = slice_index octets 2;
  hundredth = slice_index octets 3;
}

-- a Time
abbrev pub time_in : Parameter → Time4
time_in (Value (Time octets)) = time_with octets
time_in parameter = time_with []

-- the number of an opening or closing tag
abbrev pub mark_in : Parameter → ℕ
mark_in (Mark number) = number
mark_in parameter = 0
