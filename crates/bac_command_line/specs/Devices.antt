-- Devices that stand in lines, one in each.
use Rattle.std.specs.Prelude.{ℕ, ◌==◌, ◌&&◌, if◌then◌else◌, List, [], ◌∷◌, Option, None, Some, Result, Ok, Err, codes}
use Rattle.std.specs.Prelude.{option_map}
use Rattle.std.specs.List.{slice_split}
use Rattle.std.specs.Str.{bytes_eq}
use Rattle.bac_apdu.specs.Npdu.{Place}
use Rattle.bac_command_line.specs.Addresses.{address_in}
use Rattle.bac_command_line.specs.Chains.{◌>>=◌}
use Rattle.bac_command_line.specs.Listing.{listed_by}
use Rattle.bac_command_line.specs.Rows.{route_in}
use Rattle.bac_command_line.specs.declared.devices.Behind.{Behind}
use Rattle.bac_command_line.specs.declared.devices.Spoken.{Spoken}
use Rattle.bac_command_line.specs.declared.group.Group.{Group}
use Rattle.bac_command_line.specs.declared.group.Way.{Way}
use Rattle.bac_command_line.specs.declared.listing.ListFault.{ListFault}
use Rattle.bac_command_line.specs.declared.word.Word.{Word}

-- a device at this address, and behind a router by this way, none of whose logs is named
abbrev pub device_by : Option Way → List ℕ → Group
device_by way address = record { address = address; instances = []; way = way }

-- the same, if the address is one
unfoldable pub device_at : Option Way → List ℕ → Option Group
device_at way address = option_map (λ octets. device_by way address) (address_in address)

-- a network and an address there, as `--dnet` and `--dadr` have them
abbrev pub way_if : List ℕ → List ℕ → Result (Option Place) Word → Option Way
way_if net mac (Ok place) = Some (record { dnet = net; dadr = mac })
way_if net mac (Err word) = None

-- behind the word net: N mac HEX, and then max-apdu
unfoldable pub way_behind : List (List ℕ) → Option Way
way_behind (net ∷ mac ∷ address ∷ next ∷ more) =
    if bytes_eq mac (codes "mac") && bytes_eq next (codes "max-apdu")
    then way_if net address (route_in (Some net) (Some address)) else None
way_behind _ = None

-- behind the address of a line of `bac wi`: max-apdu, or the device's place behind a router
unfoldable pub way_of : List (List ℕ) → Option (Option Way)
way_of [] = None
way_of (word ∷ more) =
    if bytes_eq word (codes "max-apdu") then Some None else
    if bytes_eq word (codes "net") then option_map (λ way. Some way) (way_behind more) else None

-- a line of `bac wi`: I-Am, the instance, the address, and what stands behind it
unfoldable pub announced : List ℕ → List ℕ → List (List ℕ) → Option Group
announced word address behind =
    if bytes_eq word (codes "I-Am") then (way_of behind >>= λ way. device_at way address) else None

-- the device of the parts of a line: an address alone, or a line of `bac wi`
abbrev pub device_of : List (List ℕ) → Option Group
device_of (address ∷ []) = device_at None address
device_of (word ∷ instance ∷ address ∷ behind) = announced word address behind
device_of _ = None

-- The devices that a line says, with a blank (32) between its parts; none of an empty line and of one that begins with
-- # (35).
abbrev pub devices_in : List ℕ → Option (List Group)
devices_in [] = Some []
devices_in (c ∷ cs) = if c == 35 then Some []
    else option_map (λ device. device ∷ []) (device_of (slice_split (λ d. d == 32) (c ∷ cs)))

-- those of the lines of a text (10 ends a line), one at least
abbrev pub devices_of : List ℕ → Result (List Group) ListFault
devices_of text = listed_by devices_in [] 1 (slice_split (λ c. c == 10) text)

-- ---- what only private calls cite

-- a way, as a line says it
abbrev pub said_way : Behind → Way
said_way behind = record { dnet = behind.net.now; dadr = behind.address.now }

-- a device, as a line says it
abbrev pub said_device : Spoken → Group
said_device spoken = device_by (option_map said_way spoken.way) spoken.address.now
