-- The datagram of a Who-Is (clause 16.10).
use Rattle.std.specs.Prelude.{ℕ, false, List, [], ◌++◌, Option, Some, None}
use Rattle.bac_apdu.specs.Apdu.{Unconfirmed, apdu_octets}
use Rattle.bac_apdu.specs.FormCanon.{canon_form}
use Rattle.bac_apdu.specs.Frame.{frame_octets}
use Rattle.bac_apdu.specs.Npdu.{Header, Place, header_octets}
use Rattle.bac_apdu.specs.Service.Choice.{who_is_service}
use Rattle.bac_apdu.specs.Service.WhoIs.{who_is, who_is_parameters}
use Rattle.bac_apdu.specs.declared.service.who_is.WhoIs.{WhoIs}
use Rattle.bac_query.specs.declared.search.Search.{Search}

-- all devices of a network behind a router, which DLEN 0 says; 65535 is all networks (6.2.2)
abbrev pub devices_of : Option ℕ → Option Place
devices_of None = None
devices_of (Some net) = Some (record { net = net; address = [] })

-- a message may pass so many routers, if it has another network to go to (6.2.3)
abbrev pub hops_to : Option ℕ → ℕ
hops_to None = 0
hops_to (Some net) = 255

-- no source, no reply expected, normal priority: 01 00, or 01 20 with the network that it is for
abbrev pub asking : Option ℕ → Header
asking net =
    record { network = false; reply = false; priority = 0; dest = devices_of net; source = None; hops = hops_to net }

-- an Unconfirmed-Request
abbrev pub who_is_apdu : WhoIs → List ℕ
who_is_apdu request = apdu_octets (Unconfirmed who_is_service (canon_form who_is (who_is_parameters request)))

-- in a frame to one device, which may be a router
unfoldable pub who_is_octets : Search → List ℕ
who_is_octets search = frame_octets (header_octets (asking search.network) ++ who_is_apdu search.who_is)
