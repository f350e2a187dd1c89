-- The range of ReadRange (clauses 15.8 and 21): its parameters, and what an extent shows of its fields.
use Rattle.std.specs.Prelude.{ℕ, pos, negsuc, ◌^◌, ◌<◌, ◌≡◌, ◌&&◌, nat_lt, nat_le, ◌==◌, if◌then◌else◌, Bool, true}
use Rattle.std.specs.Prelude.{false, List, [], ◌∷◌}
use Rattle.bac_wire.specs.Primitive.{Primitive, Unsigned, Signed, Date, Time}
use Rattle.bac_wire.specs.Stamp.{date_octets, time_octets}
use Rattle.bac_apdu.specs.declared.service.extent.Extent.{Extent}
use Rattle.bac_apdu.specs.declared.service.extent.Extent.TheVariants.{All, ByPosition, ByNumber, ByTime}
use Rattle.bac_apdu.specs.Form.{Form, end, row, choice, application, opening, closing, is_u32, unsigned, signed, date}
use Rattle.bac_apdu.specs.Form.{time, Parameter, Value, Mark}
use Rattle.bac_apdu.specs.Fields.{parameter_at, unsigned_in, signed_in, date_in, time_in, mark_in}

-- ---- ranges

-- a Signed of 32 bits, not zero (15.8)
abbrev pub is_count : Primitive → Bool
is_count (Signed (pos n)) = nat_lt 0 n && nat_lt n (2 ^ 31)
is_count (Signed (negsuc n)) = nat_lt n (2 ^ 31)
is_count value = false

-- year, month and day are specified; any weekday (20.2.12)
abbrev pub date_fits : List ℕ → Bool
date_fits (year ∷ month ∷ day ∷ weekday ∷ []) =
    nat_le year 254 && nat_le 1 month && nat_le month 12 && nat_le 1 day && nat_le day 31
date_fits octets = false

-- a Date with such octets
abbrev pub is_date : Primitive → Bool
is_date (Date octets) = date_fits octets
is_date value = false

-- hour, minute, second and hundredths are specified (20.2.13)
abbrev pub time_fits : List ℕ → Bool
time_fits (hour ∷ minute ∷ second ∷ hundredths ∷ []) =
    nat_le hour 23 && nat_le minute 59 && nat_le second 59 && nat_le hundredths 99
time_fits octets = false

-- a Time with such octets
abbrev pub is_time : Primitive → Bool
is_time (Time octets) = time_fits octets
is_time value = false

-- ---- parameters

-- by position or by sequence number, between tags of this number
abbrev pub by_reference : ℕ → Form
by_reference tag =
    row (opening tag)
    (row (application unsigned is_u32)  -- reference index or sequence number
    (row (application signed is_count)  -- count
    (row (closing tag)
    end)))

-- by time
abbrev pub by_time : Form
by_time =
    row (opening 7)
    (row (application date is_date)  -- reference time: its date
    (row (application time is_time)  -- and its time
    (row (application signed is_count)  -- count
    (row (closing 7)
    end))))

-- one of the three, or nothing for all records
abbrev pub range : Form
range = choice 3 (by_reference 3) (choice 6 (by_reference 6) (choice 7 by_time end))

-- an extent as parameters: reference and count between its tags, or nothing for all records
abbrev pub extent_parameters : Extent → List Parameter
extent_parameters All = []
extent_parameters (ByPosition reference count) =
    Mark 3 ∷ Value (Unsigned reference) ∷ Value (Signed count) ∷ Mark 3 ∷ []
extent_parameters (ByNumber reference count) = Mark 6 ∷ Value (Unsigned reference) ∷ Value (Signed count) ∷ Mark 6 ∷ []
extent_parameters (ByTime date time count) =
    Mark 7 ∷ Value (Date (date_octets date)) ∷ Value (Time (time_octets time)) ∷ Value (Signed count) ∷ Mark 7 ∷ []

-- each number in its range
abbrev pub IsExtent : Extent → Type 0
IsExtent All = Unit {0}
IsExtent (ByPosition reference count) = (reference < 2 ^ 32) × (is_count (Signed count) ≡ true)
IsExtent (ByNumber reference count) = (reference < 2 ^ 32) × (is_count (Signed count) ≡ true)
IsExtent (ByTime date time count) =
    (date_fits (date_octets date) ≡ true) × (time_fits (time_octets time) ≡ true) × (is_count (Signed count) ≡ true)

-- ---- with named fields

-- by the number of the opening tag: 3 by position, 6 by sequence number, 7 by time
abbrev pub extent_behind : ℕ → List Parameter → Extent
extent_behind tag parameters =
    if tag == 3 then ByPosition (unsigned_in (parameter_at 0 parameters)) (signed_in (parameter_at 1 parameters)) else
    if tag == 6 then ByNumber (unsigned_in (parameter_at 0 parameters)) (signed_in (parameter_at 1 parameters)) else
    ByTime (date_in (parameter_at 0 parameters)) (time_in (parameter_at 1 parameters))
    (signed_in (parameter_at 2 parameters))

-- the extent that these parameters are; without any, all records
abbrev pub extent_in : List Parameter → Extent
extent_in [] = All
extent_in (mark ∷ parameters) = extent_behind (mark_in mark) parameters
