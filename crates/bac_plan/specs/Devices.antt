-- A device, by its row: where it is asked, by what it is known, and how lines call it.
use Rattle.std.specs.Prelude.{◌≡◌, ◌≢◌, ◌⊎◌, ⊤, ℕ, ◌==◌, ◌≤◌, not, Bool, if◌then◌else◌, List, [], ◌∷◌, ◌++◌, decimal}
use Rattle.std.specs.Prelude.{Option, None, Some, Result, Ok, Err, String}
use Rattle.std.specs.declared.alloc.Global.{Global}
use Rattle.std.specs.String.{string_bytes}
use Rattle.hex.specs.Hex.{decode_of}
use Rattle.hex.specs.declared.error.FromHexError.{FromHexError}
use Rattle.bac_apdu.specs.Npdu.{Place}
use Rattle.bac_apdu.specs.Route.{IsRoute}
use Rattle.bac_archive.specs.declared.row.DeviceRow.{DeviceRow}
use Rattle.bac_answers.specs.declared.way.Way.{Way}
use Rattle.bac_answers.specs.declared.who.Who.{Who}
use Rattle.bac_answers.specs.declared.who.Who.TheVariants as known
use Rattle.bac_plan.specs.Addresses.{peer_in}
use Rattle.bac_plan.specs.declared.fault.PlanFault.{PlanFault}
use Rattle.bac_plan.specs.declared.fault.PlanFault.TheVariants.{Device, Log, Memory}

-- it is polled
abbrev pub is_polled : DeviceRow → Bool
is_polled d = not d.stopped

-- ---- where it is asked

-- the octets that hexadecimal digits say, if they say some
abbrev pub octets_by : Result (List ℕ) FromHexError → Option (List ℕ)
octets_by (Ok octets) = Some octets
octets_by (Err e) = None

-- the octets of its address on the network behind its router
abbrev pub address_there : DeviceRow → Option (List ℕ)
address_there d = octets_by (decode_of (string_bytes d.dadr))

-- its place behind its router (clause 6.2.2), if it is behind one
abbrev pub IsRouteOf : DeviceRow → Option Place → Type 0
IsRouteOf d None = d.dnet ≡ 0
IsRouteOf d (Some place) = (d.dnet ≢ 0) × (place.net ≡ d.dnet) × (address_there d ≡ Some place.address)

-- where it is asked: at its address, or through the router there
pub record IsWayOf (d : DeviceRow) (way : Way) : Type 0 where
  pub peer : peer_in (string_bytes d.address) ≡ Some way.peer
  pub route : IsRouteOf d way.route

-- it is behind a router, where it has no place
abbrev pub HasNoPlace : DeviceRow → Type 0
HasNoPlace d = (d.dnet ≢ 0) × ((place : Place) → IsRouteOf d (Some place) → IsRoute place → ⊥)

-- ---- by what it is known

-- by its name, if it has one
abbrev pub named_by : Option (String Global) → Option Who
named_by None = None
named_by (Some name) = Some (known.Name (string_bytes name))

-- by its instance, or else by its name
abbrev pub known_by : (instance : Option ℕ) → (name : Option (String Global)) → Option Who
known_by None name = named_by name
known_by (Some instance) name = Some (known.Device (record { kind = 8; instance = instance }))

-- by what it is known; of one that is new nothing is
abbrev pub who_of : DeviceRow → Option Who
who_of d = known_by d.instance d.name

-- its instance is above that of any object
abbrev pub HasNoInstance : DeviceRow → Type 0
HasNoInstance d = (instance : ℕ) × (d.instance ≡ Some instance) × (4194304 ≤ instance)

-- ---- what is told of it

-- behind a router its network, and its address there
abbrev pub place_text : DeviceRow → List ℕ
place_text d = if d.dnet == 0 then [] else 47 ∷ (decimal d.dnet ++ (47 ∷ string_bytes d.dadr))

-- how lines call it: by its address, and its place behind a router
abbrev pub called_of : DeviceRow → List ℕ
called_of d = string_bytes d.address ++ place_text d

-- ---- why it isn't polled

-- its row doesn't tell where it is asked, or its instance is none of a device
abbrev pub IsUnreadable : DeviceRow → Type 0
IsUnreadable d = (peer_in (string_bytes d.address) ≡ None) ⊎ (HasNoPlace d ⊎ HasNoInstance d)

-- so it is told, unless memory is wanting
abbrev pub IsDeviceFault : DeviceRow → PlanFault → Type 0
IsDeviceFault d Memory = ⊤
IsDeviceFault d (Device id) = (id ≡ d.id) × IsUnreadable d
IsDeviceFault d (Log id) = ⊥
