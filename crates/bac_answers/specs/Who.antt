-- Who answers, and whether it is the device on record.
use Rattle.std.specs.Prelude.{ℕ, ◌==◌, ◌&&◌, nat_lt, if◌then◌else◌, List, Option, None, Some}
use Rattle.std.specs.Str.{bytes_eq}
use Rattle.bac_wire.specs.Primitive.{Id}
use Rattle.bac_answers.specs.declared.who.Who.{Who}
use Rattle.bac_answers.specs.declared.who.Who.TheVariants.{Address, Device, Name}
use Rattle.bac_answers.specs.declared.who.Whose.{Whose}
use Rattle.bac_answers.specs.declared.who.Whose.TheVariants.{Another, New, Now, Same, Untold}

-- the Device object (type 8) that each device answers for as its own, instance 4194303 (clause 15.5)
abbrev pub itself : Id
itself = record { kind = 8; instance = 4194303 }

-- the Device object of a device that is known so
abbrev pub device_of : Option Who → Id
device_of None = itself
device_of (Some (Device device)) = device
device_of (Some (Name name)) = itself
device_of (Some Address) = itself

-- a Device object with an instance of its own
abbrev pub own_device : Option Id → Option Id
own_device None = None
own_device (Some id) = if id.kind == 8 && nat_lt id.instance 4194303 then Some id else None

-- ---- against the one on record

-- known by its instance: one that tells another is another one, and one that tells none isn't known
abbrev pub whose_device : Id → Who → Whose
whose_device was (Device now) = if was.instance == now.instance then Same else Another
whose_device was (Name now) = Untold
whose_device was Address = Untold

-- by its name
abbrev pub whose_name : List ℕ → Who → Whose
whose_name was (Device now) = Now
whose_name was (Name now) = if bytes_eq was now then Same else Another
whose_name was Address = Untold

-- by its address alone
abbrev pub whose_address : Who → Whose
whose_address (Device now) = Now
whose_address (Name now) = Now
whose_address Address = Same

-- Whose answers these are.
abbrev pub whose : Option Who → Who → Whose
whose None now = New
whose (Some (Device was)) now = whose_device was now
whose (Some (Name was)) now = whose_name was now
whose (Some Address) now = whose_address now
