-- A router rejects a message since it has no route to the network that it is for: Reject-Message-To-Network, reason 1
-- (clause 6.4.4).
use Rattle.std.specs.Prelude.{ℕ, ◌+◌, ◌*◌, ◌==◌, ◌&&◌, Bool, false, if◌then◌else◌, List, [], ◌∷◌, Option, None, Some}
use Rattle.std.specs.Str.{bytes_eq}
use Rattle.bac_wire.specs.OptionChain.{◌>>=◌}
use Rattle.bac_apdu.specs.Frame.{Broadcast, Forwarded, Frame, Function, Unicast, frame_at}
use Rattle.bac_apdu.specs.Npdu.{Header, Place, header_at}
use Rattle.bac_answers.specs.Way.{is_for_all}
use Rattle.bac_answers.specs.declared.reject.NoRoute.{NoRoute}
use Rattle.bac_answers.specs.declared.way.Way.{Way}

-- its type, 03, the reason, 1, and the network that the message was for; any other reason isn't heeded, since it may be
-- of one device of the network alone, and the message doesn't say of which
abbrev pub reject_in : List ℕ → Option NoRoute
reject_in (message ∷ reason ∷ high ∷ low ∷ []) =
    if message == 3 && reason == 1 then Some (record { network = high * 256 + low }) else None
reject_in other = None

-- whether messages to this place are for that network; to a device behind no router none are
abbrev pub is_towards : Option Place → NoRoute → Bool
is_towards None reject = false
is_towards (Some place) reject = place.net == reject.network

-- then it is heeded
abbrev pub if_towards : Option Place → NoRoute → Option NoRoute
if_towards place reject = if is_towards place reject then Some reject else None

-- a message of the network layer to no other network (6.2.2)
abbrev pub is_message : Header → Bool
is_message header = header.network && is_for_all header.dest

-- the rejection that an NPDU is, of messages to this place
unfoldable pub reject_from : Option Place → List ℕ → Option NoRoute
reject_from place npdu = do
  header ← header_at npdu
  if is_message header.0 then (do
    reject ← reject_in header.1
    if_towards place reject) else None

-- it goes to the sender of the message alone, and comes by the address at which the device is asked
abbrev pub reject_of_frame : Way → (from : List ℕ) → Frame → Option NoRoute
reject_of_frame way from (Unicast npdu) = if bytes_eq from way.peer then reject_from way.route npdu else None
reject_of_frame way from (Broadcast npdu) = None
reject_of_frame way from (Forwarded address npdu) = None
reject_of_frame way from (Function function rest) = None

-- The rejection that a datagram from this sender is, of what is asked of the device: its router has no route to its
-- network.
abbrev pub reject_by : Way → (from : List ℕ) → List ℕ → Option NoRoute
reject_by way from datagram = frame_at datagram >>= reject_of_frame way from
