-- Network headers (clause 6.2): how they are read and written, with the routes to and from other networks.
use Rattle.std.specs.Prelude.{ℕ, ◌+◌, ◌*◌, ◌%◌, ◌<◌, ◌≡◌, ◌==◌, Bool, true, false, List, [], ◌∷◌, ◌++◌, length, Option}
use Rattle.std.specs.Prelude.{Some, None, if◌then◌else◌}
use Rattle.std.specs.Int.{w16, to_be_bytes, from_bool}
use Rattle.bac_wire.specs.Number.{bit}
use Rattle.bac_apdu.specs.declared.npdu.Npdu.{Npdu}
use Rattle.bac_apdu.specs.declared.npdu.Far.{Far}
use Rattle.bac_wire.specs.OptionChain.{◌>>=◌}
use Rattle.bac_apdu.specs.Octets.{octet_at, word_at, octets_at}

-- ---- headers, whatever memory holds them

-- a network and an address on it (6.2.2.1, 6.2.2.2)
pub record Place : Type 0 where
  pub net : ℕ
  pub address : List ℕ

-- what comes before an APDU or a network layer message: the NPCI (6.2.1, 6.2.2)
pub record Header : Type 0 where
  pub network : Bool
  pub reply : Bool
  pub priority : ℕ
  pub dest : Option Place
  pub source : Option Place
  pub hops : ℕ

-- a place of the code, apart from where its address lies in memory
abbrev pub place_of : Far → Place
place_of far = record { net = far.net; address = far.address.now }

-- the same if a header may have none
abbrev pub maybe_place_of : Option Far → Option Place
maybe_place_of None = None
maybe_place_of (Some far) = Some (place_of far)

-- a header of the code, apart from where its addresses lie in memory
abbrev pub header_of : Npdu → Header
header_of n = record {
  network = n.network;
  reply = n.reply;
  priority = n.priority;
  dest = maybe_place_of n.dest;
  source = maybe_place_of n.source;
  hops = n.hops;
}

-- ---- read

-- the network in two octets, the length of the address, the address
unfoldable pub place_at : List ℕ → Option (Place × List ℕ)
place_at bytes = do
  net ← word_at bytes
  len ← octet_at net.1
  address ← octets_at len.0 len.1
  Some (record { net = net.0; address = address.0 }, address.1)

-- a place, if the control octet says that it is there
unfoldable pub maybe_place_at : Bool → List ℕ → Option (Option Place × List ℕ)
maybe_place_at there bytes = if there then (do
  place ← place_at bytes
  Some (Some place.0, place.1)) else Some (None, bytes)

-- the hop count, if there is a destination; else 0, which no octet says (6.2.3)
unfoldable pub hops_at : Bool → List ℕ → Option (ℕ × List ℕ)
hops_at there bytes = if there then octet_at bytes else Some (0, bytes)

-- 6.2.2: 01, the control octet, the destination (DNET, DADR) if bit 5 is set, the
-- source (SNET, SADR) if bit 3 is, and the hop count if there is a destination.
-- Bit 7 says a network message, bit 2 that a reply is expected, bits 1 and 0 the priority.
unfoldable pub header_at : List ℕ → Option (Header × List ℕ)
header_at bytes = do
  version ← octet_at bytes
  if version.0 == 1 then (do
    control ← octet_at version.1
    dest ← maybe_place_at (bit control.0 5) control.1
    source ← maybe_place_at (bit control.0 3) dest.1
    hops ← hops_at (bit control.0 5) source.1
    Some (
      record {
        network = bit control.0 7;
        reply = bit control.0 2;
        priority = control.0 % 4;
        dest = dest.0;
        source = source.0;
        hops = hops.0;
      },
      hops.1,
    )) else None

-- ---- written

-- whether a header has this place
abbrev pub is_there : Option Place → Bool
is_there None = false
is_there (Some place) = true

-- a place as place_at reads it, and nothing if there is none
unfoldable pub place_octets : Option Place → List ℕ
place_octets None = []
place_octets (Some place) = to_be_bytes w16 place.net ++ length place.address ∷ place.address

-- the hop count, if there is a destination (6.2.3)
abbrev pub hops_octets : Option Place → ℕ → List ℕ
hops_octets None hops = []
hops_octets (Some place) hops = hops ∷ []

-- the control octet (6.2.2)
abbrev pub control_of : Header → ℕ
control_of h =
    128 * from_bool h.network + 32 * from_bool (is_there h.dest) + 8 * from_bool (is_there h.source)
    + 4 * from_bool h.reply + h.priority

-- in the order of 6.2: the hop count is last
abbrev pub header_octets : Header → List ℕ
header_octets h =
    (1 ∷ control_of h ∷ []) ++ (place_octets h.dest ++ (place_octets h.source ++ hops_octets h.dest h.hops))

-- ---- what can be written

-- a number of two octets, and an address whose length has one
abbrev pub IsPlace : Option Place → Type 0
IsPlace None = Unit {0}
IsPlace (Some place) = (place.net < 65536) × (length place.address < 256)

-- the hop count is there if a destination is (6.2.3)
abbrev pub HasHops : Option Place → ℕ → Type 0
HasHops None hops = hops ≡ 0
HasHops (Some place) hops = Unit {0}

-- the priority has two bits (6.2.2)
abbrev pub IsHeader : Header → Type 0
IsHeader h = (h.priority < 4) × IsPlace h.dest × IsPlace h.source × HasHops h.dest h.hops

-- ---- the grammar

-- The control octet states flags and priority. Its bits 6 and 4 are reserved: a
-- writer clears them, and a reader ignores them (6.2.2).
abbrev pub IsControl : Header → ℕ → Type 0
IsControl h control = (six : Bool) × (four : Bool) × (control ≡ control_of h + 64 * from_bool six + 16 * from_bool four)

-- a header with this control octet
abbrev pub header_encoding : ℕ → Header → List ℕ
header_encoding control h =
    (1 ∷ control ∷ []) ++ (place_octets h.dest ++ (place_octets h.source ++ hops_octets h.dest h.hops))
