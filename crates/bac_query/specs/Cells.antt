-- What is printed of the properties of a trend log (clause 12.25), each a cell of a table.
use Rattle.std.specs.Prelude.{◌≡◌, ◌≢◌, ◌⊎◌, ℕ, ◌/◌, ◌%◌, ◌==◌, if◌then◌else◌, List, [], ◌∷◌, ◌++◌, codes, decimal}
use Rattle.std.specs.Prelude.{Option, Some, None, Result, Ok, Err}
use Rattle.bac_wire.specs.Primitive.{Primitive, Unsigned, Enumerated}
use Rattle.bac_wire.specs.Spelling.{Spells}
use Rattle.bac_wire.specs.declared.fault.WireFault.{WireFault}
use Rattle.bac_link.specs.Datagrams.{apdu_in}
use Rattle.bac_link.specs.declared.exchanges.ExchangeFault.{ExchangeFault}
use Rattle.bac_link.specs.declared.exchanges.ExchangeFault.TheVariants.{Lost, Refused, BadReply, TooLong}
use Rattle.bac_print.specs.Numbers.{called, two_digits}
use Rattle.bac_print.specs.Values.{value_text}
use Rattle.bac_query.specs.Answers.{values_in}
use Rattle.bac_query.specs.Reading.{Answer}
use Rattle.bac_query.specs.Sources.{reference_at, reference_of, source_text}
use Rattle.bac_query.specs.declared.fault.QueryFault.TheVariants.{Exchange, Write, Memory}
use Rattle.bac_query.specs.declared.source.Source.{Source}

-- hundredths of a second, in seconds
abbrev pub seconds_text : ℕ → List ℕ
seconds_text n = decimal (n / 100) ++ (46 ∷ two_digits (n % 100))

-- how a log is fed (BACnetLoggingType, clause 21)
abbrev pub type_text : ℕ → List ℕ
type_text n =
    if n == 0 then codes "polled" else
    if n == 1 then codes "cov" else
    if n == 2 then codes "triggered" else called (codes "enum") (decimal n)

-- a number: of Log_Interval (134) one of hundredths of a second
abbrev pub unsigned_text : ℕ → ℕ → List ℕ
unsigned_text property n = if property == 134 then seconds_text n else decimal n

-- an Enumerated: of Logging_Type (197) by its name
abbrev pub enumerated_text : ℕ → ℕ → List ℕ
enumerated_text property n = if property == 197 then type_text n else called (codes "enum") (decimal n)

-- a value of a property
abbrev pub cell_text : ℕ → Primitive → List ℕ
cell_text property (Unsigned n) = unsigned_text property n
cell_text property (Enumerated n) = enumerated_text property n
cell_text property value = value_text value

-- ? (63): an answer that can't be read; - (45): one that refuses
abbrev pub unread : List ℕ
unread = 63 ∷ []

-- the device refuses
abbrev pub refused : List ℕ
refused = 45 ∷ []

-- octets that are one value, and nothing else
abbrev pub ShowsOne : ℕ → List ℕ → List ℕ → Type 0
ShowsOne property octets text =
    ((value : Primitive) × Spells octets value × (text ≡ cell_text property value))
    ⊎ (((value : Primitive) → Spells octets value → ⊥) × (text ≡ unread))

-- octets that are a reference, and nothing else
abbrev pub ShowsSource : List ℕ → List ℕ → Type 0
ShowsSource octets text =
    ((source : Source) × (reference_at octets ≡ Ok (reference_of source)) × (text ≡ source_text source))
    ⊎ ((fault : WireFault) × (reference_at octets ≡ Err fault) × (text ≡ unread))

-- Log_DeviceObjectProperty (132) is a reference, each other property one value
abbrev pub ShowsOctets : ℕ → List ℕ → List ℕ → Type 0
ShowsOctets property octets text =
    ((property ≡ 132) × ShowsSource octets text) ⊎ ((property ≢ 132) × ShowsOne property octets text)

-- the octets of an ACK that can be read
abbrev pub ShowsAck : ℕ → Option (List ℕ) → List ℕ → Type 0
ShowsAck property None text = text ≡ unread
ShowsAck property (Some octets) text = ShowsOctets property octets text

-- the cell of what came to the question for a property; none if no answer came
abbrev pub ShowsCell : ℕ → Result (List ℕ) ExchangeFault → List ℕ → Type 0
ShowsCell property (Ok datagram) text = ShowsAck property (values_in (apdu_in datagram)) text
ShowsCell property (Err (Refused refusal)) text = text ≡ refused
ShowsCell property (Err BadReply) text = text ≡ unread
ShowsCell property (Err Lost) text = ⊥
ShowsCell property (Err TooLong) text = ⊥

-- no answer came, or there was nothing to send
abbrev pub IsUnanswered : ExchangeFault → Type 0
IsUnanswered Lost = Unit {0}
IsUnanswered TooLong = Unit {0}
IsUnanswered BadReply = ⊥
IsUnanswered (Refused refusal) = ⊥

-- the cell is appended; or there is none, since no answer came, or since there was no memory for it
abbrev pub Answers : ℕ → Result (List ℕ) ExchangeFault → List ℕ → Answer → List ℕ → Type 0
Answers property answer before (Ok done) after =
    (cell : List ℕ) × ShowsCell property answer cell × (after ≡ before ++ cell)
Answers property answer before (Err (Exchange fault)) after = (answer ≡ Err fault) × IsUnanswered fault
Answers property answer before (Err Memory) after = Unit {0}
Answers property answer before (Err Write) after = ⊥
