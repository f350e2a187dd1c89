-- The Object_List of a device (property 76, clause 12.11): how it is asked for, and the object identifiers told.
use Rattle.std.specs.Prelude.{◌≡◌, ◌<◌, ◌+◌, ◌*◌, ℕ, List, ◌∷◌, length, take, drop, Some, None}
use Rattle.std.specs.Int.{w32, from_be_bytes}
use Rattle.bac_wire.specs.Primitive.{Id}
use Rattle.bac_apdu.specs.declared.service.read_property.ReadProperty.{ReadProperty}
use Rattle.bac_link.specs.Datagrams.{apdu_in}
use Rattle.bac_query.specs.Answers.{values_in}

-- a place of the list of the device itself, instance 4194303; at 0 it has how many there are
abbrev pub list_at : ℕ → ReadProperty
list_at place = record { object = record { kind = 8; instance = 4194303 }; property = 76; index = Some place }

-- the whole list
abbrev pub whole_list : ReadProperty
whole_list = record { object = record { kind = 8; instance = 4194303 }; property = 76; index = None }

-- octets are an object identifier: C4, and in four octets the type in the high ten bits, then the instance (20.2.14)
abbrev pub IsObject : Id → List ℕ → Type 0
IsObject object values =
    (octets : List ℕ) × (values ≡ 196 ∷ octets) × (length octets ≡ 4)
    × (from_be_bytes w32 octets ≡ object.kind * 4194304 + object.instance) × (object.instance < 4194304)

-- the values of an ACK are one object identifier
abbrev pub TellsObject : List ℕ → Id → Type 0
TellsObject datagram object = (values : List ℕ) × (values_in (apdu_in datagram) ≡ Some values) × IsObject object values

-- the octets at a place, from 0 on, of octets that have five for each
abbrev pub octets_at : ℕ → List ℕ → List ℕ
octets_at place values = take 5 (drop (5 * place) values)

-- octets are so many object identifiers, one behind the other
abbrev pub AreObjects : ℕ → List ℕ → Type 0
AreObjects count values = (length values ≡ 5 * count)
    × ((place : ℕ) → place < count → (object : Id) × IsObject object (octets_at place values))

-- the values of an ACK are so many object identifiers: these octets
abbrev pub TellsObjects : List ℕ → ℕ → List ℕ → Type 0
TellsObjects datagram count values = (values_in (apdu_in datagram) ≡ Some values) × AreObjects count values
