-- What goes through all layers: a question for records of a log, and an answer with two values.
use Rattle.std.specs.Prelude.{ℕ, ◌==◌, Bool, false, List, [], ◌∷◌, ◌++◌, Option, Some, None, if◌then◌else◌}
use Rattle.std.specs.Result.{result_ok}
use Rattle.bac_wire.specs.Primitive.{Id, Primitive}
use Rattle.bac_wire.specs.Encoding.{value_octets}
use Rattle.bac_wire.specs.OptionChain.{◌>>=◌}
use Rattle.bac_wire.specs.Reading.{value_at}
use Rattle.bac_apdu.specs.Apdu.{Apdu, Confirmed, Complex, apdu_at, apdu_octets}
use Rattle.bac_apdu.specs.FormCanon.{canon_form}
use Rattle.bac_apdu.specs.Frame.{Frame, Unicast, frame_at, frame_octets}
use Rattle.bac_apdu.specs.Npdu.{Header, header_at, header_octets}
use Rattle.bac_apdu.specs.Service.Choice.{read_range_service, read_property_service}
use Rattle.bac_apdu.specs.Service.ReadPropertyAck.{PropertyAck, property_ack_octets, read_property_ack_at}
use Rattle.bac_apdu.specs.Service.ReadRange.{read_range, range_parameters, read_range_at}
use Rattle.bac_apdu.specs.declared.service.read_range.ReadRange.{ReadRange}

-- no route and normal priority; whether a reply is expected
abbrev pub header_with : Bool → Header
header_with reply = record { network = false; reply = reply; priority = 0; dest = None; source = None; hops = 0 }

-- an APDU in a frame to one device
unfoldable pub datagram_with : Bool → Apdu → List ℕ
datagram_with reply apdu = frame_octets (header_octets (header_with reply) ++ apdu_octets apdu)

-- the NPDU of an Original-Unicast-NPDU (Annex J.2.11)
abbrev pub npdu_in : Frame → Option (List ℕ)
npdu_in (Unicast npdu) = Some npdu
npdu_in other = None

-- the APDU in a frame to one device
unfoldable pub apdu_in : List ℕ → Option Apdu
apdu_in datagram = do
  frame ← frame_at datagram
  npdu ← npdu_in frame
  header ← header_at npdu
  apdu_at header.1

-- ---- a question for records

-- a ReadRange as an unsegmented Confirmed-Request that takes an answer of 1476 octets
abbrev pub question : ReadRange → ℕ → Apdu
question r invoke = Confirmed false 1476 invoke read_range_service (canon_form read_range (range_parameters r))

-- the ReadRange that an APDU asks, if it is one that can be read
abbrev pub question_of : Apdu → Option ReadRange
question_of (Confirmed segmented size invoke service parameters) =
    if service == read_range_service then result_ok (read_range_at parameters) else None
question_of other = None

-- the ReadRange in a datagram
unfoldable pub question_in : List ℕ → Option ReadRange
question_in datagram = do
  apdu ← apdu_in datagram
  question_of apdu

-- ---- an answer with two values

-- what the ACK says: of this property, without an index, one value and then another
abbrev pub two_values : Id → ℕ → Primitive → Primitive → PropertyAck
two_values object property v w =
    record { object = object; property = property; index = None; values = value_octets v ++ value_octets w }

-- the ReadProperty-ACK with the two values
abbrev pub answer : Id → ℕ → Primitive → Primitive → ℕ → Apdu
answer object property v w invoke =
    Complex false invoke read_property_service (property_ack_octets (two_values object property v w))

-- the ReadProperty-ACK that an APDU is, if it is one that can be read
abbrev pub answer_of : Apdu → Option PropertyAck
answer_of (Complex segmented invoke service parameters) =
    if service == read_property_service then read_property_ack_at parameters else None
answer_of other = None

-- two values, if no octets are left after them
abbrev pub nothing_behind : Primitive → Primitive → List ℕ → Option (Primitive × Primitive)
nothing_behind v w [] = Some (v, w)
nothing_behind v w (octet ∷ rest) = None

-- two values and nothing else
unfoldable pub values_in : List ℕ → Option (Primitive × Primitive)
values_in octets = do
  first ← result_ok (value_at octets)
  second ← result_ok (value_at first.1)
  nothing_behind first.0 second.0 second.1

-- the two values of the ReadProperty-ACK in a datagram
unfoldable pub answer_in : List ℕ → Option (Primitive × Primitive)
answer_in datagram = do
  apdu ← apdu_in datagram
  ack ← answer_of apdu
  values_in ack.values
