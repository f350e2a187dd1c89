-- What a device sends (clauses 6, 20.1, Annex J).
use Rattle.std.specs.Prelude.{ℕ, nat_lt, true, false, if◌then◌else◌, List, [], ◌++◌, length, Option, None, Some}
use Rattle.std.specs.Option.{option_map}
use Rattle.bac_apdu.specs.Apdu.{Apdu, Error, Reject, Abort, apdu_octets}
use Rattle.bac_apdu.specs.Frame.{frame_octets, unicast_head}
use Rattle.bac_apdu.specs.Npdu.{Header, Place, header_octets}
use Rattle.bac_apdu.specs.Reason.{reason_code}
use Rattle.bac_apdu.specs.declared.reason.Reason.{Reason}
use Rattle.bac_objects.specs.Fault.{class_of, code_of}
use Rattle.bac_objects.specs.declared.fault.Fault.{Fault}
use Rattle.bac_device.specs.declared.reply.Receiver.{Receiver}
use Rattle.bac_device.specs.declared.reply.Reply.{Reply}

-- ---- datagrams

-- no destination, no source, no reply expected, normal priority
abbrev pub plain : Header
plain = record { network = false; reply = false; priority = 0; dest = None; source = None; hops = 0 }

-- an APDU in a datagram to one receiver
unfoldable pub datagram_octets : Apdu → List ℕ
datagram_octets apdu = frame_octets (header_octets plain ++ apdu_octets apdu)

-- By the way that the request came (6.2.2): to the place behind a router that it came from, 01 20, with the greatest
-- hop count; or 01 00, to a device of this network.
abbrev pub plain_to : Option Place → Header
plain_to None = plain
plain_to (Some place) = record plain { dest = Some place; hops = 255 }

-- an APDU in a datagram to one receiver, by that way
unfoldable pub datagram_to : Option Place → Apdu → List ℕ
datagram_to place apdu = frame_octets (header_octets (plain_to place) ++ apdu_octets apdu)

-- who gets an answer, and the place behind a router that it is for
pub record Return : Type 0 where
  pub to : Receiver
  pub place : Option Place

-- an APDU as a reply
abbrev pub reply : Return → Apdu → Reply
reply back apdu = record { datagram = datagram_to back.place apdu; to = back.to }

-- the same up to the APDU, and with a length that isn't told yet
unfoldable pub begun : List ℕ → List ℕ
begun apdu = unicast_head 0 ++ (header_octets plain ++ apdu)

-- the octets of an answer, or none
abbrev pub said_octets : Option Apdu → List ℕ
said_octets None = []
said_octets (Some apdu) = datagram_octets apdu

-- the octets of a reply, or none
abbrev pub reply_octets : Option Reply → List ℕ
reply_octets None = []
reply_octets (Some reply) = reply.datagram

-- who gets a reply
abbrev pub receiver_of : Option Reply → Option Receiver
receiver_of said = option_map (λ reply. reply.to) said

-- ---- refusals

-- of what was read and can't be done (20.1.7)
abbrev pub error : ℕ → ℕ → Fault → Apdu
error invoke service fault = Error invoke service (class_of fault) (code_of fault)

-- of what can't be read (20.1.8)
abbrev pub reject : ℕ → Reason → Apdu
reject invoke reason = Reject invoke (reason_code reason)

-- of what would need segments: reason 4 is segmentation-not-supported (20.1.9)
abbrev pub abort : ℕ → Apdu
abort invoke = Abort true invoke 4

-- an answer, if it has at most so many octets
abbrev pub limited : ℕ → ℕ → Apdu → Apdu
limited limit invoke apdu = if nat_lt limit (length (apdu_octets apdu)) then abort invoke else apdu
