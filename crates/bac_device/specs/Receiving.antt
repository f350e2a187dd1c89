-- What reaches a device (Annex J, clause 6).
use Rattle.std.specs.Prelude.{ℕ, ◌==◌, ◌||◌, ◌&&◌, not, nat_le, Bool, true, is_some, if◌then◌else◌, List, [], ◌∷◌}
use Rattle.std.specs.Prelude.{length, Option, None, Some}
use Rattle.std.specs.Map.{lookup}
use Rattle.bac_wire.specs.OptionChain.{◌>>=◌}
use Rattle.bac_apdu.specs.Apdu.{Apdu, apdu_at}
use Rattle.bac_apdu.specs.Npdu.{Header, Place, header_at}

-- ---- functions of broadcast management

-- the functions that a device without broadcast management refuses, and the code of the result of each (J.2.1)
abbrev pub nak_codes : List (ℕ × ℕ)
nak_codes =
    (0x01, 0x10)  -- Write-Broadcast-Distribution-Table
    ∷ (0x02, 0x20)  -- Read-Broadcast-Distribution-Table
    ∷ (0x05, 0x30)  -- Register-Foreign-Device
    ∷ (0x06, 0x40)  -- Read-Foreign-Device-Table
    ∷ (0x08, 0x50)  -- Delete-Foreign-Device-Table-Entry
    ∷ (0x09, 0x60)  -- Distribute-Broadcast-To-Network
    ∷ []

-- the code of the result that refuses a function, if it is one of these
abbrev pub nak_code : ℕ → Option ℕ
nak_code function = lookup (λ refused. function == refused) nak_codes

-- the BVLC-Result with a code (J.2.1)
abbrev pub nak_octets : ℕ → List ℕ
nak_octets code = 0x81 ∷ 0x00 ∷ 0x00 ∷ 0x06 ∷ 0x00 ∷ code ∷ []

-- ---- headers

-- the network number that stands for all networks (6.2.2)
abbrev pub all_networks : ℕ
all_networks = 65535

-- without a destination, or with the global broadcast address: all networks and no address there
abbrev pub is_for_all : Option Place → Bool
is_for_all None = true
is_for_all (Some place) = place.net == all_networks && length place.address == 0

-- From this network, or from a place that an answer can go to: a network that is neither 0 nor all of them, and an
-- address of 1 to 15 octets there.
abbrev pub is_answerable : Option Place → Bool
is_answerable None = true
is_answerable (Some place) =
    nat_le 1 place.net
    && (nat_le place.net 65534 && (nat_le 1 (length place.address) && nat_le (length place.address) 15))

-- no network message, none from where no answer can go, and none to another network
abbrev pub is_heard : Header → Bool
is_heard header = not header.network && (is_answerable header.source && is_for_all header.dest)

-- ---- APDUs

-- an APDU, whether it went to all devices, and the place behind a router that it came from
pub record ReceivedApdu : Type 0 where
  pub to_all : Bool
  pub source : Option Place
  pub apdu : Apdu

-- what an NPDU has for a device: its frame or its header says whether it went to all
unfoldable pub heard_at : Bool → List ℕ → Option ReceivedApdu
heard_at to_all npdu = do
  header ← header_at npdu
  if is_heard header.0 then (do
    apdu ← apdu_at header.1
    Some (record { to_all = to_all || is_some header.0.dest; source = header.0.source; apdu = apdu })) else None
