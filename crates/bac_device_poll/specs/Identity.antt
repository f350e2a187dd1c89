-- Who answers, and whether it is the device on record.
use Rattle.std.specs.Prelude.{ℕ, List, [], ◌∷◌, Option, None, Some}
use Rattle.bac_wire.specs.Primitive.{Id}
use Rattle.bac_device_poll.specs.State.{DeviceState}
use Rattle.bac_device_poll.specs.Turns.{Turned, asks, leaves}
use Rattle.bac_answers.specs.declared.entry.Entry.{Entry}
use Rattle.bac_answers.specs.declared.entry.Entry.TheVariants.{Another as AnotherIs, Known, KnownNow}
use Rattle.bac_answers.specs.declared.entry.Entry.TheVariants.{Untold as UntoldIs}
use Rattle.bac_device_poll.specs.declared.stage.Stage.TheVariants as stage
use Rattle.bac_device_poll.specs.declared.turn.DeviceEnd.TheVariants.{Foreign}
use Rattle.bac_answers.specs.declared.who.Who.{Who}
use Rattle.bac_answers.specs.declared.who.Who.TheVariants.{Address, Device, Name}
use Rattle.bac_answers.specs.declared.who.Whose.{Whose}
use Rattle.bac_answers.specs.declared.who.Whose.TheVariants.{Another, New, Now, Same, Untold}
pub use Rattle.bac_answers.specs.Who.{itself, device_of, own_device, whose_device, whose_name, whose_address, whose}

-- ---- what that makes of it

-- it is known: its word is asked for
abbrev pub goes_on : DeviceState → Who → List Entry → Turned
goes_on p who entries = asks (record p { stage = stage.Restart; who = Some who }) entries

-- of another device nothing is kept, and nothing more is asked
abbrev pub met_as : DeviceState → Who → Whose → Turned
met_as p who New = goes_on p who (Known who ∷ [])
met_as p who Same = goes_on p who []
met_as p who Now = goes_on p who (KnownNow who ∷ [])
met_as p who Another = leaves p (AnotherIs who ∷ []) Foreign
met_as p who Untold = leaves p (UntoldIs ∷ []) Foreign

-- This one answers.
abbrev pub met : DeviceState → Who → Turned
met p who = met_as p who (whose p.who who)

-- ---- what each answer makes of it

-- its Object_Identifier; refused: an I-Am is asked for
abbrev pub after_instance : DeviceState → Option Id → Turned
after_instance p None = asks (record p { stage = stage.IAm }) []
after_instance p (Some device) = met p (Device device)

-- an I-Am; none came: its name is asked for
abbrev pub after_i_am : DeviceState → Option Id → Turned
after_i_am p None = asks (record p { stage = stage.Name }) []
after_i_am p (Some device) = met p (Device device)

-- its Object_Name; refused: it is known by its address
abbrev pub after_name : DeviceState → Option (List ℕ) → Turned
after_name p None = met p Address
after_name p (Some name) = met p (Name name)
