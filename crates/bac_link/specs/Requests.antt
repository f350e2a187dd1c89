-- Confirmed requests, and the datagrams that carry them.
use Rattle.std.specs.Prelude.{ℕ, ◌+◌, ◌%◌, ◌<◌, Bool, true, false, List, ◌++◌, length, Option, Some, None}
use Rattle.bac_wire.specs.View.{IsWellFormed}
use Rattle.bac_apdu.specs.Apdu.{Confirmed, apdu_octets}
use Rattle.bac_apdu.specs.FormCanon.{canon_form}
use Rattle.bac_apdu.specs.Frame.{frame_octets}
use Rattle.bac_apdu.specs.Npdu.{Header, Place, header_octets}
use Rattle.bac_apdu.specs.Service.Choice.{read_property_service, write_property_service, read_range_service}
use Rattle.bac_apdu.specs.Service.ReadProperty.{read_property, property_parameters}
use Rattle.bac_apdu.specs.Service.WriteProperty.{write_property, write_parameters}
use Rattle.bac_apdu.specs.Service.ReadRange.{read_range, range_parameters}
use Rattle.bac_link.specs.Path.{Path}
use Rattle.bac_link.specs.declared.request.Request.{Request}
use Rattle.bac_link.specs.declared.request.Request.TheVariants as request

-- the service choice (BACnetConfirmedServiceChoice of clause 21)
abbrev pub service_of : Request → ℕ
service_of (request.ReadProperty r) = read_property_service
service_of (request.WriteProperty w) = write_property_service
service_of (request.ReadRange r) = read_range_service

-- the service parameters of a request (clauses 15.5, 15.8, 15.9), each as short as can be
unfoldable pub parameters_of : Request → List ℕ
parameters_of (request.ReadProperty r) = canon_form read_property (property_parameters r)
parameters_of (request.WriteProperty w) = canon_form write_property (write_parameters w)
parameters_of (request.ReadRange r) = canon_form read_range (range_parameters r)

-- whether the service is acknowledged with a result (a ComplexACK) or without one (a SimpleACK)
abbrev pub has_result : Request → Bool
has_result (request.ReadProperty r) = true
has_result (request.WriteProperty w) = false
has_result (request.ReadRange r) = true

-- a value to be written has as many octets as its unused bits ask for
abbrev pub IsSendable : Request → Type 0
IsSendable (request.ReadProperty r) = Unit {0}
IsSendable (request.WriteProperty w) = IsWellFormed w.value
IsSendable (request.ReadRange r) = Unit {0}

-- a message may pass so many routers, if it has another network to go to (6.2.3)
abbrev pub hops_to : Option Place → ℕ
hops_to None = 0
hops_to (Some place) = 255

-- a reply is expected: 01 04, or 01 24 with the place that it is for
abbrev pub asking : Path → Header
asking path =
    record {
      network = false;
      reply = true;
      priority = 0;
      dest = path.dest;
      source = path.source;
      hops = hops_to path.dest;
    }

-- a Confirmed-Request that isn't segmented and takes an answer of 1476 octets
unfoldable pub request_apdu : ℕ → Request → List ℕ
request_apdu invoke r = apdu_octets (Confirmed false 1476 invoke (service_of r) (parameters_of r))

-- in a frame to one device, by other networks or by none
unfoldable pub request_octets : Path → ℕ → Request → List ℕ
request_octets path invoke r = frame_octets (header_octets (asking path) ++ request_apdu invoke r)

-- the invoke ID after this one: after 255 comes 0
abbrev pub next_invoke : ℕ → ℕ
next_invoke invoke = (invoke + 1) % 256

-- the APDU has more octets than one may have, whatever its invoke ID
abbrev pub IsTooLong : Request → Type 0
IsTooLong r = 1476 < length (request_apdu 0 r)
