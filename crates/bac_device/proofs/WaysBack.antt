-- The way of a reply.
use Rattle.std.proofs.Common.{◌≡◌, refl, sym, ◌∙◌, ◌≤◌, true, false, length, Option, Some, None}
use Rattle.std.specs.Option.{option_map}
use Rattle.std.proofs.lemmas.Option.{none-some}
use Rattle.bac_apdu.specs.Frame.{Frame, Unicast, Broadcast, Forwarded, Function, frame_at}
use Rattle.bac_apdu.specs.Npdu.{header_octets}
use Rattle.bac_objects.specs.State.{State}
use Rattle.bac_device.specs.Answer.{answer, answer_apdu, answer_frame}
use Rattle.bac_device.specs.History.{heard_in}
use Rattle.bac_device.specs.Receiving.{ReceivedApdu}
use Rattle.bac_device.specs.Reply.{plain_to, reply}
use Rattle.bac_device.proofs.Told.{heard_way, length-plain_to}
use Rattle.bac_device.specs.Ways.{receiver_in, refused_in, RepliesGoBack, WaysChangeNothing, DropsTheRest, RoutedHeadersAreShort}

-- ---- the way back

frame_back : (d : State) (f : Option Frame) (heard : ReceivedApdu) → heard_in f ≡ Some heard →
    ((answer_frame d f).0 ≡ option_map (reply (record { to = receiver_in f; place = heard.source })) (answer_apdu d heard.to_all heard.apdu).0)
    × ((answer_frame d f).1 ≡ (answer_apdu d heard.to_all heard.apdu).1)
frame_back d None heard e = absurd (none-some heard e)
frame_back d (Some (Unicast npdu)) heard e = rw e (refl, refl)
frame_back d (Some (Broadcast npdu)) heard e = rw e (refl, refl)
frame_back d (Some (Forwarded address npdu)) heard e = rw e (refl, refl)
frame_back d (Some (Function function rest)) heard e = absurd (none-some heard e)

pub go_back : RepliesGoBack
unfolding answer
go_back = λ d datagram heard e. frame_back d (frame_at datagram) heard e

pub change_nothing : WaysChangeNothing
change_nothing = λ d here there to_all apdu a b e f.
    let x = go_back d here (record { to_all = to_all; source = a; apdu = apdu }) e in
    let y = go_back d there (record { to_all = to_all; source = b; apdu = apdu }) f in
    (((answer_apdu d to_all apdu).0, x.0, y.0), x.1 ∙ sym y.1)

frame_drops : (d : State) (f : Option Frame) → heard_in f ≡ None → ((answer_frame d f).0 ≡ refused_in f) × ((answer_frame d f).1 ≡ d)
frame_drops d None e = (refl, refl)
frame_drops d (Some (Unicast npdu)) e = rw e (refl, refl)
frame_drops d (Some (Broadcast npdu)) e = rw e (refl, refl)
frame_drops d (Some (Forwarded address npdu)) e = rw e (refl, refl)
frame_drops d (Some (Function function rest)) e = (refl, refl)

pub drops : DropsTheRest
unfolding answer
drops = λ d datagram e. frame_drops d (frame_at datagram) e

-- ---- headers

frame_short : (f : Option Frame) (heard : ReceivedApdu) → heard_in f ≡ Some heard → length (header_octets (plain_to heard.source)) ≤ 21
frame_short None heard e = absurd (none-some heard e)
frame_short (Some (Unicast npdu)) heard e = length-plain_to heard.source (heard_way false npdu heard e)
frame_short (Some (Broadcast npdu)) heard e = length-plain_to heard.source (heard_way true npdu heard e)
frame_short (Some (Forwarded address npdu)) heard e = length-plain_to heard.source (heard_way true npdu heard e)
frame_short (Some (Function function rest)) heard e = absurd (none-some heard e)

pub short : RoutedHeadersAreShort
short = λ datagram heard e. frame_short (frame_at datagram) heard e
