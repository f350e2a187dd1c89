-- What a datagram is, for one who waits for another.
use Rattle.std.specs.Prelude.{ℕ, ◌+◌, ◌*◌, ◌==◌, if◌then◌else◌, List, [], ◌∷◌, Option, Some, None}
use Rattle.bac_apdu.specs.Apdu.{Apdu, apdu_at}
use Rattle.bac_apdu.specs.Apdu as apdu
use Rattle.bac_apdu.specs.Frame.{Frame, Unicast, Broadcast, Forwarded, Function, frame_at}
use Rattle.bac_apdu.specs.Npdu.{Header, header_at}
use Rattle.bac_ports.specs.declared.port.Heard.{Heard}
use Rattle.bac_socket_notes.specs.declared.contents.Content.{Content}
use Rattle.bac_socket_notes.specs.declared.contents.Content.TheVariants.{Rejected, Message, Bvlc, Confirmed}
use Rattle.bac_socket_notes.specs.declared.contents.Content.TheVariants.{Unconfirmed}
use Rattle.bac_socket_notes.specs.declared.contents.Content.TheVariants.{Answer, TooLong, Unread}
use Rattle.bac_socket_notes.specs.declared.contents.Stray.{Stray}

-- a message of the network layer (6.4), by its type; a Reject-Message-To-Network, 03, has a reason and a network
-- (6.4.4)
abbrev pub message_content : List ℕ → Content
message_content [] = Unread
message_content (message ∷ reason ∷ high ∷ low ∷ []) =
    if message == 3 then Rejected reason (high * 256 + low) else Message message
message_content (message ∷ rest) = Message message

-- an APDU (20.1)
abbrev pub apdu_content : Option Apdu → Content
apdu_content None = Unread
apdu_content (Some (apdu.Confirmed segmented size invoke service parameters)) = Confirmed
apdu_content (Some (apdu.Unconfirmed service parameters)) = Unconfirmed service
apdu_content (Some other) = Answer

-- a network header, and what follows it (6.2)
abbrev pub npdu_content : Option (Header × List ℕ) → Content
npdu_content None = Unread
npdu_content (Some (header, rest)) = if header.network then message_content rest else apdu_content (apdu_at rest)

-- a BVLC-Result behind its head: a code in two octets (J.2.1)
abbrev pub result_content : List ℕ → Content
result_content (high ∷ low ∷ []) = Bvlc (high * 256 + low)
result_content other = Unread

-- a frame (J.2); the BVLC-Result has the function 00
abbrev pub frame_content : Option Frame → Content
frame_content None = Unread
frame_content (Some (Unicast npdu)) = npdu_content (header_at npdu)
frame_content (Some (Broadcast npdu)) = npdu_content (header_at npdu)
frame_content (Some (Forwarded address npdu)) = npdu_content (header_at npdu)
frame_content (Some (Function function body)) = if function == 0 then result_content body else Unread

-- a datagram, none if it was too long to be kept
abbrev pub content_of : Option (List ℕ) → Content
content_of None = TooLong
content_of (Some octets) = frame_content (frame_at octets)

-- what is remembered of a datagram that came
abbrev pub stray_of : Heard → Stray
stray_of heard = record { from = heard.from; content = content_of heard.datagram }
