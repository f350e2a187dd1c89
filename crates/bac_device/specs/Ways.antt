-- The way of a reply (clause 6.2.2, Annex J.2.5).
use Rattle.std.specs.Prelude.{◌≡◌, ◌≤◌, ℕ, Bool, List, length, Option, None, Some}
use Rattle.std.specs.Option.{option_map}
use Rattle.bac_apdu.specs.Apdu.{Apdu}
use Rattle.bac_apdu.specs.Frame.{Frame, Unicast, Broadcast, Forwarded, Function, frame_at}
use Rattle.bac_apdu.specs.Npdu.{Place, header_octets}
use Rattle.bac_objects.specs.State.{State}
use Rattle.bac_device.specs.Answer.{answer, answer_apdu, nak}
use Rattle.bac_device.specs.History.{heard_in}
use Rattle.bac_device.specs.Receiving.{ReceivedApdu}
use Rattle.bac_device.specs.Reply.{Return, plain_to, reply}
use Rattle.bac_device.specs.declared.reply.Receiver.{Receiver}
use Rattle.bac_device.specs.declared.reply.Receiver.TheVariants.{Sender, Address}
use Rattle.bac_device.specs.declared.reply.Reply.{Reply}

-- who gets the answer to what came in a frame
abbrev pub receiver_in : Option Frame → Receiver
receiver_in None = Sender
receiver_in (Some (Unicast npdu)) = Sender
receiver_in (Some (Broadcast npdu)) = Sender
receiver_in (Some (Forwarded address npdu)) = Address address
receiver_in (Some (Function function rest)) = Sender

-- the way back of what came in a datagram from this place
abbrev pub way_back : List ℕ → Option Place → Return
way_back datagram source = record { to = receiver_in (frame_at datagram); place = source }

-- An APDU that is answered goes back the way that it came; what answers it, and the device after it, are of the APDU
-- alone.
abbrev pub RepliesGoBack : Type 0
RepliesGoBack =
    (d : State) (datagram : List ℕ) (heard : ReceivedApdu) → heard_in (frame_at datagram) ≡ Some heard
    → ((answer d datagram).0
    ≡ option_map (reply (way_back datagram heard.source)) (answer_apdu d heard.to_all heard.apdu).0)
    × ((answer d datagram).1 ≡ (answer_apdu d heard.to_all heard.apdu).1)

-- the same APDU from two places: the same answer, each by its way, and the same device after it
abbrev pub WaysChangeNothing : Type 0
WaysChangeNothing =
    (d : State) (here there : List ℕ) (to_all : Bool) (apdu : Apdu) (a b : Option Place)
    → heard_in (frame_at here) ≡ Some (record { to_all = to_all; source = a; apdu = apdu })
    → heard_in (frame_at there) ≡ Some (record { to_all = to_all; source = b; apdu = apdu })
    → ((said : Option Apdu)
    × ((answer d here).0 ≡ option_map (reply (way_back here a)) said)
    × ((answer d there).0 ≡ option_map (reply (way_back there b)) said))
    × ((answer d here).1 ≡ (answer d there).1)

-- what refuses a function, and nothing else
abbrev pub refused_in : Option Frame → Option Reply
refused_in None = None
refused_in (Some (Unicast npdu)) = None
refused_in (Some (Broadcast npdu)) = None
refused_in (Some (Forwarded address npdu)) = None
refused_in (Some (Function function rest)) = nak function

-- of a datagram that has nothing for the device only a function is answered, and the device stays
abbrev pub DropsTheRest : Type 0
DropsTheRest =
    (d : State) (datagram : List ℕ) → heard_in (frame_at datagram) ≡ None
    → ((answer d datagram).0 ≡ refused_in (frame_at datagram)) × ((answer d datagram).1 ≡ d)

-- version, control, a network of two octets, an address of 1 to 15 after its length, a hop count
abbrev pub RoutedHeadersAreShort : Type 0
RoutedHeadersAreShort =
    (datagram : List ℕ) (heard : ReceivedApdu) → heard_in (frame_at datagram) ≡ Some heard
    → length (header_octets (plain_to heard.source)) ≤ 21
