-- Where a device is asked, and how it is asked who it is: a Who-Is to it alone, and the I-Am that answers it (16.10).
use Rattle.std.specs.Prelude.{ℕ, ◌==◌, ◌&&◌, not, Bool, true, false, if◌then◌else◌, List, [], ◌∷◌, ◌++◌, Option, None}
use Rattle.std.specs.Prelude.{Some}
use Rattle.std.specs.Option.{option_map}
use Rattle.std.specs.Str.{bytes_eq}
use Rattle.bac_wire.specs.OptionChain.{◌>>=◌}
use Rattle.bac_wire.specs.Primitive.{Id}
use Rattle.bac_apdu.specs.Apdu.{Apdu, Unconfirmed, apdu_at}
use Rattle.bac_apdu.specs.Frame.{Broadcast, Forwarded, Frame, Function, Unicast, frame_at, frame_octets}
use Rattle.bac_apdu.specs.Npdu.{Header, Place, header_at, header_octets}
use Rattle.bac_apdu.specs.Service.Choice.{i_am_service, who_is_service}
use Rattle.bac_apdu.specs.Service.IAm.{i_am_at}
use Rattle.bac_link.specs.Path.{same_place}
use Rattle.bac_link.specs.Requests.{hops_to}
use Rattle.bac_answers.specs.Who.{own_device}
use Rattle.bac_answers.specs.declared.way.Way.{Way}

-- no reply is expected, and the priority is normal: 01 00, or 01 20 with the place that it is for
abbrev pub to_place : Option Place → (hops : ℕ) → Header
to_place place hops =
    record { network = false; reply = false; priority = 0; dest = place; source = None; hops = hops }

-- A Who-Is without limits, an Unconfirmed-Request (20.1.3), in a frame to one device, by its router or by none.
unfoldable pub who_is_octets : Option Place → List ℕ
who_is_octets place = frame_octets (header_octets (to_place place (hops_to place)) ++ 16 ∷ who_is_service ∷ [])

-- without a destination, or for all networks: FFFF (6.2.2)
abbrev pub is_for_all : Option Place → Bool
is_for_all None = true
is_for_all (Some place) = place.net == 65535

-- no network message, to no other network, and from this place
abbrev pub is_from : Option Place → Header → Bool
is_from place header = not header.network && (is_for_all header.dest && same_place place header.source)

-- the device of the I-Am that an APDU is
abbrev pub device_in : Apdu → Option Id
device_in (Unconfirmed service parameters) =
    if service == i_am_service then option_map (λ said. said.device) (i_am_at parameters) else None
device_in other = None

-- that of an NPDU from this place
unfoldable pub device_from : Option Place → List ℕ → Option Id
device_from place npdu = do
  header ← header_at npdu
  if is_from place header.0 then (do
    apdu ← apdu_at header.1
    device_in apdu) else None

-- the same, if it comes by the address at which the device is asked
abbrev pub device_by : Way → (address : List ℕ) → List ℕ → Option Id
device_by way address npdu = if bytes_eq address way.peer then device_from way.route npdu else None

-- the address is the sender's, or the one in a Forwarded-NPDU (J.2.5)
abbrev pub device_of_frame : Way → (from : List ℕ) → Frame → Option Id
device_of_frame way from (Unicast npdu) = device_by way from npdu
device_of_frame way from (Broadcast npdu) = device_by way from npdu
device_of_frame way from (Forwarded address npdu) = device_by way address npdu
device_of_frame way from (Function function rest) = None

-- The Device object that a datagram from this sender announces, if it comes from where the device is asked.
abbrev pub i_am_by : Way → (from : List ℕ) → List ℕ → Option Id
i_am_by way from datagram = own_device (frame_at datagram >>= device_of_frame way from)
