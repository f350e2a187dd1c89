-- Places behind a router (clause 6.2.2): where a request goes that names
-- another network, and where its answer comes from.
use Rattle.std.specs.Prelude.{◌≤◌, Option, Some, None, length}
use Rattle.bac_apdu.specs.Npdu.{Place}

-- A network that is neither this one, 0, nor all of them, FFFF; and an address of 1 to 15 octets there.
abbrev pub IsRoute : Place → Type 0
IsRoute place = (1 ≤ place.net) × (place.net ≤ 65534) × (1 ≤ length place.address) × (length place.address ≤ 15)

-- no other network, or such a place
abbrev pub IsWay : Option Place → Type 0
IsWay None = Unit {0}
IsWay (Some place) = IsRoute place
