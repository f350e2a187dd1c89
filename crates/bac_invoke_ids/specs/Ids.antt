-- Where the invoke ID lies in a datagram, and datagrams with another one. Read `sent_by`, `taken_by`.
use Rattle.std.specs.Prelude.{ℕ, ◌+◌, ◌-◌, ◌%◌, List, length, nat_lt, if◌then◌else◌, Option, Some, None, slice_set}
use Rattle.bac_wire.specs.OptionChain.{◌>>=◌}
use Rattle.bac_apdu.specs.Apdu.{Apdu, apdu_at}
use Rattle.bac_apdu.specs.Apdu as apdu
use Rattle.bac_link.specs.Datagrams.{carried_in}
use Rattle.bac_invoke_ids.specs.declared.ids.InvokeId.{InvokeId}

-- an octet of an APDU that is an invoke ID
abbrev id_at : ℕ → ℕ → InvokeId
id_at at id = record { at = at; id = id }

-- that of a Confirmed-Request is the third octet (20.1.2)
abbrev pub asked : Apdu → Option InvokeId
asked (apdu.Confirmed segmented size invoke service parameters) = Some (id_at 2 invoke)
asked _ = None

-- that of each answer is the second (20.1.4 to 20.1.9); a request that isn't confirmed has none
abbrev pub told : Apdu → Option InvokeId
told (apdu.Confirmed segmented size invoke service parameters) = None
told (apdu.Unconfirmed service parameters) = None
told (apdu.Simple invoke service) = Some (id_at 1 invoke)
told (apdu.Complex segmented invoke service parameters) = Some (id_at 1 invoke)
told (apdu.SegmentAck invoke) = Some (id_at 1 invoke)
told (apdu.Error invoke service class code) = Some (id_at 1 invoke)
told (apdu.Reject invoke reason) = Some (id_at 1 invoke)
told (apdu.Abort by_server invoke reason) = Some (id_at 1 invoke)

-- where the APDU begins in a datagram to one device, whose last octets it is; and the APDU
unfoldable pub placed_in : List ℕ → Option (ℕ × Apdu)
placed_in bytes = do
  carried ← carried_in bytes
  apdu ← apdu_at carried.1
  Some (length bytes - length carried.1, apdu)

-- the invoke ID of such an APDU, in the datagram
unfoldable pub id_in : (Apdu → Option InvokeId) → List ℕ → Option InvokeId
id_in of bytes = do
  placed ← placed_in bytes
  id ← of placed.1
  Some (id_at (placed.0 + id.at) id.id)

-- that of a question; what has over 1501 octets is no datagram of BACnet/IP (Annex J), and none
abbrev pub question_in : List ℕ → Option InvokeId
question_in octets = if nat_lt 1501 (length octets) then None else id_in asked octets

-- with an ID that is so much greater; after 255 comes 0
abbrev pub moved : ℕ → List ℕ → Option InvokeId → List ℕ
moved by octets None = octets
moved by octets (Some id) = slice_set octets id.at ((id.id + by) % 256)

-- a question whose ID is so much greater, and whatever else is sent as it is
abbrev pub sent_by : ℕ → List ℕ → List ℕ
sent_by shift octets = moved shift octets (question_in octets)

-- an answer whose ID is so much smaller, and whatever else comes as it is
abbrev pub taken_by : ℕ → List ℕ → List ℕ
taken_by shift datagram = moved (256 - shift) datagram (id_in told datagram)

-- what comes over a port whose IDs are moved by so much, if they are
abbrev pub taken : Option ℕ → List ℕ → List ℕ
taken None datagram = datagram
taken (Some shift) datagram = taken_by shift datagram
