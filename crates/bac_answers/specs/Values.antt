-- What an answer to ReadProperty tells (clause 15.5).
use Rattle.std.specs.Prelude.{◌≡◌, ℕ, ◌==◌, nat_lt, if◌then◌else◌, List, [], ◌∷◌, Option, None}
use Rattle.std.specs.Prelude.{Some}
use Rattle.std.specs.Prelude.{Result, Ok, Err, String, option_map}
use Rattle.std.specs.declared.alloc.Global.{Global}
use Rattle.std.specs.String.{string_bytes}
use Rattle.bac_wire.specs.Primitive.{Chars, Date, Enumerated, Id, Object, Primitive, Time, Unsigned}
use Rattle.bac_wire.specs.Reading.{contents_as, value_at}
use Rattle.bac_wire.specs.declared.fault.WireFault.{WireFault}
use Rattle.bac_wire.specs.declared.stamp.Date4.{Date4}
use Rattle.bac_wire.specs.declared.stamp.Time4.{Time4}
use Rattle.bac_apdu.specs.Apdu.{Apdu}
use Rattle.bac_apdu.specs.Apdu as apdu
use Rattle.bac_apdu.specs.Service.ReadPropertyAck.{PropertyAck, read_property_ack_at}
use Rattle.bac_link.specs.Datagrams.{apdu_in}
use Rattle.bac_link.specs.declared.exchanges.Verdict.{Verdict}
use Rattle.bac_link.specs.declared.exchanges.Verdict.TheVariants.{Ack, BadReply, Refused}
use Rattle.bac_print.specs.Texts.{IsTextOf}

-- ---- octets

-- the octets of the values in an ACK
abbrev pub values_of : Option PropertyAck → Option (List ℕ)
values_of None = None
values_of (Some ack) = Some ack.values

-- the same of an APDU
abbrev pub values_in : Option Apdu → Option (List ℕ)
values_in (Some (apdu.Complex segmented invoke service parameters)) = values_of (read_property_ack_at parameters)
values_in other = None

-- An answer with this verdict tells these octets; none, if it refuses.
abbrev pub told_by : Verdict → List ℕ → Option (List ℕ)
told_by Ack datagram = values_in (apdu_in datagram)
told_by (Refused refusal) datagram = None
told_by BadReply datagram = None

-- ---- one value

-- a value with nothing behind it
abbrev pub if_last : Primitive → List ℕ → Option Primitive
if_last value [] = Some value
if_last value (octet ∷ octets) = None

-- the same of what is read at the front
abbrev pub only : Result (Primitive × List ℕ) WireFault → Option Primitive
only (Ok found) = if_last found.0 found.1
only (Err fault) = None

-- the one value that octets are
abbrev pub value_of : Option (List ℕ) → Option Primitive
value_of None = None
value_of (Some octets) = only (value_at octets)

-- An answer with this verdict tells this one value.
abbrev pub value_by : Verdict → List ℕ → Option Primitive
value_by verdict datagram = value_of (told_by verdict datagram)

-- a number of 32 bits
abbrev pub number_of : Option Primitive → Option ℕ
number_of (Some (Unsigned n)) = if nat_lt 4294967295 n then None else Some n
number_of other = None

-- the number of an Enumerated
abbrev pub enumerated_of : Option Primitive → Option ℕ
enumerated_of (Some (Enumerated n)) = Some n
enumerated_of other = None

-- a Date
abbrev pub date_in : List ℕ → Option Date4
date_in (year ∷ month ∷ day ∷ weekday ∷ []) =
    Some (record { year = year; month = month; day = day; weekday = weekday })
date_in other = None

-- the same of a value
abbrev pub date_of : Option Primitive → Option Date4
date_of (Some (Date octets)) = date_in octets
date_of other = None

-- a Time
abbrev pub time_in : List ℕ → Option Time4
time_in (hour ∷ minute ∷ second ∷ hundredth ∷ []) =
    Some (record { hour = hour; minute = minute; second = second; hundredth = hundredth })
time_in other = None

-- the same of a value
abbrev pub time_of : Option Primitive → Option Time4
time_of (Some (Time octets)) = time_in octets
time_of other = None

-- a Character String in Unicode, if it is one (clause 20.2.9)
abbrev pub IsText : Option Primitive → Option (List ℕ) → Type 0
IsText (Some (Chars set octets)) text =
    (found : Option (String Global)) × IsTextOf set octets found × (text ≡ option_map string_bytes found)
IsText other text = text ≡ None

-- ---- object identifiers

-- the object of the contents of a tag
abbrev pub object_by : Result Primitive WireFault → Option Id
object_by (Ok (Object id)) = Some id
object_by (Ok other) = None
object_by (Err fault) = None

-- an object identifier: the octet C4 and four octets (clause 20.2.14)
abbrev pub object_in : ℕ → List ℕ → Option Id
object_in tag octets = if tag == 196 then object_by (contents_as 12 octets) else None

-- octets that are one
abbrev pub only_object : List ℕ → Option Id
only_object (tag ∷ a ∷ b ∷ c ∷ d ∷ []) = object_in tag (a ∷ b ∷ c ∷ d ∷ [])
only_object other = None

-- the same of what an answer tells
abbrev pub object_of : Option (List ℕ) → Option Id
object_of None = None
object_of (Some octets) = only_object octets

-- an object in front of others
abbrev pub with_object : Option Id → Option (List Id) → Option (List Id)
with_object None more = None
with_object (Some object) more = option_map (λ objects. object ∷ objects) more

-- Object identifiers, one behind the other, and nothing else.
abbrev pub objects_in : List ℕ → Option (List Id)
objects_in [] = Some []
objects_in (tag ∷ a ∷ b ∷ c ∷ d ∷ octets) = with_object (object_in tag (a ∷ b ∷ c ∷ d ∷ [])) (objects_in octets)
objects_in other = None

-- octets that don't begin with one: none of them, or none at all
abbrev pub no_objects : List ℕ → Option (List Id)
no_objects [] = Some []
no_objects (octet ∷ octets) = None

-- the same of what an answer tells
abbrev pub objects_of : Option (List ℕ) → Option (List Id)
objects_of None = None
objects_of (Some octets) = objects_in octets
