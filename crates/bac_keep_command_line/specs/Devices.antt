-- The devices of `bac keep`, and which trend logs of each. Read `named_in`.
use Rattle.std.specs.Prelude.{ℕ, List, [], ◌∷◌, codes, Option, None, Some, Result, Ok}
use Rattle.std.specs.String.{string_bytes}
use Rattle.hex.specs.Hex.{encode_lower}
use Rattle.clap.specs.Words.{Text}
use Rattle.bac_apdu.specs.Npdu.{Place}
use Rattle.bac_wire.specs.Chain.{◌>>=◌}
use Rattle.bac_print.specs.Addresses.{address_text}
use Rattle.bac_command_line.specs.Addresses.{address_in}
use Rattle.bac_command_line.specs.Numbers.{number_in}
use Rattle.bac_command_line.specs.declared.group.Group.{Group}
use Rattle.bac_command_line.specs.declared.job.KeepOptions.{KeepOptions}
use Rattle.bac_command_line.specs.declared.word.Word.TheVariants.{Address, Instance}
use Rattle.bac_plan.specs.declared.named.Choice.{Choice}
use Rattle.bac_plan.specs.declared.named.Choice.TheVariants.{Logs, Whole}
use Rattle.bac_plan.specs.declared.named.Named.{Named}
use Rattle.bac_keep_command_line.specs.Options.{fetching_in, sending_in, way_in}
use Rattle.bac_keep_command_line.specs.Values.{said}
use Rattle.bac_keep_command_line.specs.declared.devices.Asked.{Asked}
use Rattle.bac_keep_command_line.specs.declared.fault.Fault.{Fault}

-- A log of a device, read as `bac log` reads its words, in that order: the options are right, too.
unfoldable pub log_in : KeepOptions → Group → (instance : Text) → Result Asked Fault
log_in options group instance = do
  address ← said address_in Address group.address
  sending ← sending_in options
  route ← way_in options group.way
  number ← said (number_in 0 4194303) Instance instance
  fetching ← fetching_in options
  Ok (record { address = address; route = route; instance = number })

-- several logs of it
abbrev pub logs_in : KeepOptions → Group → (instances : List Text) → Result (List ℕ) Fault
logs_in options group [] = Ok []
logs_in options group (instance ∷ instances) = do
  asked ← log_in options group instance
  others ← logs_in options group instances
  Ok (asked.instance ∷ others)

-- ---- as a run takes them

-- a device that is named: where it is, and which of its trend logs; none: all of them
pub record NamedAs : Type 0 where
  pub address : List ℕ
  pub dnet : ℕ
  pub dadr : List ℕ
  pub logs : Option (List ℕ)

-- which trend logs are chosen
abbrev pub choice_as : Choice → Option (List ℕ)
choice_as Whole = None
choice_as (Logs instances) = Some instances.items

-- the same of a value of the program
abbrev pub named_as : Named → NamedAs
named_as n = record {
  address = string_bytes n.address;
  dnet = n.dnet;
  dadr = string_bytes n.dadr;
  logs = choice_as n.choice;
}

-- the network behind a router, or 0
abbrev pub net_of : Option Place → ℕ
net_of None = 0
net_of (Some place) = place.net

-- the address there in hexadecimal digits, or nothing
abbrev pub mac_of : Option Place → List ℕ
mac_of None = []
mac_of (Some place) = encode_lower place.address

-- these logs; all of a device of which none is named
abbrev pub chosen : List ℕ → Option (List ℕ)
chosen [] = None
chosen (instance ∷ instances) = Some (instance ∷ instances)

-- a device where it is asked, and logs of it
abbrev pub named_at : Asked → List ℕ → NamedAs
named_at asked instances = record {
  address = address_text asked.address;
  dnet = net_of asked.route;
  dadr = mac_of asked.route;
  logs = chosen instances;
}

-- the first of these texts; 0 stands for the log of a device of which none is named
abbrev pub first_or_zero : List Text → Text
first_or_zero [] = codes "0"
first_or_zero (instance ∷ instances) = instance

-- the device of a group, and which logs of it
unfoldable pub named_in : KeepOptions → Group → Result NamedAs Fault
named_in options group = do
  asked ← log_in options group (first_or_zero group.instances)
  instances ← logs_in options group group.instances
  Ok (named_at asked instances)

-- those of several groups
abbrev pub all_in : KeepOptions → List Group → Result (List NamedAs) Fault
all_in options [] = Ok []
all_in options (group ∷ groups) = do
  named ← named_in options group
  others ← all_in options groups
  Ok (named ∷ others)
