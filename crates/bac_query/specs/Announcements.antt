-- Which datagrams announce a device: those with an I-Am (clause 16.10) in an Original-Unicast-NPDU, an
-- Original-Broadcast-NPDU or a Forwarded-NPDU (Annex J.2).
use Rattle.std.specs.Prelude.{ℕ, ◌==◌, ◌&&◌, not, Bool, true, if◌then◌else◌, List, Option, None, Some}
use Rattle.bac_wire.specs.OptionChain.{◌>>=◌}
use Rattle.bac_apdu.specs.Apdu.{Apdu, Unconfirmed, apdu_at}
use Rattle.bac_apdu.specs.Frame.{Frame, Unicast, Broadcast, Forwarded, Function, frame_at}
use Rattle.bac_apdu.specs.Npdu.{Header, Place, header_at, maybe_place_of}
use Rattle.bac_apdu.specs.Service.Choice.{i_am_service}
use Rattle.bac_apdu.specs.Service.IAm.{i_am_at}
use Rattle.bac_apdu.specs.declared.service.i_am.IAm.{IAm}
use Rattle.bac_query.specs.declared.announcement.Announcement.{Announcement as Code}
use Rattle.bac_ports.specs.declared.port.Heard.{Heard}

-- without a destination, or for all networks: FFFF (6.2.2)
abbrev pub is_for_all : Option Place → Bool
is_for_all None = true
is_for_all (Some place) = place.net == 65535

-- no network message, and none to another network
abbrev pub is_heard : Header → Bool
is_heard header = not header.network && is_for_all header.dest

-- what a device says of itself, the address that it was heard from, and its place if that is behind a router
pub record Announcement : Type 0 where
  pub address : List ℕ
  pub source : Option Place
  pub i_am : IAm

-- as the code holds it
abbrev pub announcement_of : Code → Announcement
announcement_of said = record { address = said.address; source = maybe_place_of said.source; i_am = said.i_am }

-- the I-Am that an APDU is
abbrev pub i_am_in : Apdu → Option IAm
i_am_in (Unconfirmed service parameters) = if service == i_am_service then i_am_at parameters else None
i_am_in other = None

-- what an NPDU from this address announces
unfoldable pub announced_at : List ℕ → List ℕ → Option Announcement
announced_at address npdu = do
  header ← header_at npdu
  if is_heard header.0 then (do
    apdu ← apdu_at header.1
    i_am ← i_am_in apdu
    Some (record { address = address; source = header.0.source; i_am = i_am })) else None

-- the device is the sender, or has the address in a Forwarded-NPDU (J.2.5)
abbrev pub announced_by_frame : List ℕ → Frame → Option Announcement
announced_by_frame sender (Unicast npdu) = announced_at sender npdu
announced_by_frame sender (Broadcast npdu) = announced_at sender npdu
announced_by_frame sender (Forwarded address npdu) = announced_at address npdu
announced_by_frame sender (Function function rest) = None

-- what a datagram from this sender announces
abbrev pub announced_in : List ℕ → List ℕ → Option Announcement
announced_in sender datagram = frame_at datagram >>= announced_by_frame sender

-- the same of a datagram that may not be there
abbrev pub announced_if : List ℕ → Option (List ℕ) → Option Announcement
announced_if sender None = None
announced_if sender (Some datagram) = announced_in sender datagram

-- what came announces; a datagram over 1501 octets announces nothing
abbrev pub announced : Heard → Option Announcement
announced heard = announced_if heard.from heard.datagram
