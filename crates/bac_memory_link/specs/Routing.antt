-- What a router makes of a datagram that it hands on (clause 6.5): of a request on its way, and of the reply on its way
-- back.
use Rattle.std.specs.Prelude.{◌≡◌, ℕ, Bool, not, ◌&&◌, nat_lt, if◌then◌else◌, List, ◌++◌, length, Option, None, Some}
use Rattle.std.specs.Prelude.{Result, Ok, Err}
use Rattle.std.specs.Result.{result_ok}
use Rattle.bac_wire.specs.OptionChain.{◌>>=◌}
use Rattle.bac_apdu.specs.Frame.{frame_at, frame_octets}
use Rattle.bac_apdu.specs.Npdu.{Header, Place, header_at, header_octets, is_there}
use Rattle.bac_apdu.specs.Route.{IsRoute}
use Rattle.bac_apdu.specs.declared.service.extent.Extent.{Extent}
use Rattle.bac_wire.specs.Primitive.{Id}
use Rattle.bac_link.specs.Datagrams.{unicast_in}
use Rattle.bac_link.specs.Links.{IsQuestion}
use Rattle.bac_link.specs.Path.{Path, back, same_place, towards}
use Rattle.bac_link.specs.declared.link.Lost.{Lost}

-- to this place, from the network on which the router hears it
abbrev pub is_for : Place → Header → Bool
is_for dest h = same_place h.dest (Some dest) && not (is_there h.source)

-- to a device of the network that it is handed on to, from a place elsewhere; its hop count goes with its destination
abbrev pub handed : Place → Header → Header
handed source h = record h { dest = None; source = Some source; hops = 0 }

-- if it is no longer than a datagram can be
abbrev pub whole : List ℕ → Option (List ℕ)
whole octets = if nat_lt 1501 (length octets) then None else Some octets

-- a datagram to the place `dest`, handed on to it as one from the place `source`
unfoldable pub handed_on : Place → Place → List ℕ → Option (List ℕ)
handed_on dest source datagram = do
  npdu ← unicast_in (frame_at datagram)
  header ← header_at npdu
  if is_for dest header.0 then whole (frame_octets (header_octets (handed source header.0) ++ header.1)) else None

-- the reply on its way back, if one came and is handed on
abbrev pub IsHandedBack : Place → Place → Result (List ℕ) Lost → Result (List ℕ) Lost → Type 0
IsHandedBack far near (Ok reply) answer = result_ok answer ≡ handed_on near far reply
IsHandedBack far near (Err lost) answer = result_ok answer ≡ None

-- an ask through a router: the request that is handed on is asked behind it; if it isn't handed on, nothing is
abbrev pub PassesOn : {S : Type 0} → (S → List ℕ → Result (List ℕ) Lost → S → Type 0) →
    Place → Place → Option (List ℕ) → S →
    Result (List ℕ) Lost → S → Type 0
PassesOn {S = S} asks far near None old answer new = (result_ok answer ≡ None) × (new ≡ old)
PassesOn {S = S} asks far near (Some request) old answer new =
    (reply : Result (List ℕ) Lost) × asks old request reply new × IsHandedBack far near reply answer

-- A question has a DNET or an SNET, and never both: one that is handed on was for the far place, from no other network,
-- and behind the router it is for no other network, from the near place.
abbrev pub RoutersHandOnQuestions : Type 0
RoutersHandOnQuestions =
    (far near : Place) (path : Path) (id : Id) (extent : Extent) (invoke : ℕ) (octets inner : List ℕ) →
    IsRoute near → IsQuestion id extent path invoke octets → handed_on far near octets ≡ Some inner →
    (path ≡ towards (Some far)) × IsQuestion id extent (back (towards (Some near))) invoke inner
