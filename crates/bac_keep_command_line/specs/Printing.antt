-- Which device the words of `bac kept` name, and which trend log of it. Read `device_in`.
use Rattle.std.specs.Prelude.{ℕ, List, Option, None, Some, option_map, Result, Ok}
use Rattle.std.specs.String.{string_bytes}
use Rattle.hex.specs.Hex.{encode_lower}
use Rattle.clap.specs.Words.{Text}
use Rattle.bac_apdu.specs.Npdu.{Place}
use Rattle.bac_wire.specs.Chain.{◌>>=◌, result_map}
use Rattle.bac_print.specs.Addresses.{address_text}
use Rattle.bac_command_line.specs.Addresses.{address_in}
use Rattle.bac_command_line.specs.Numbers.{number_in}
use Rattle.bac_command_line.specs.Rows.{route_in}
use Rattle.bac_command_line.specs.declared.job.Kept.{Kept}
use Rattle.bac_command_line.specs.declared.word.Word.TheVariants.{Address, Instance}
use Rattle.bac_keep_command_line.specs.Options.{route_said}
use Rattle.bac_keep_command_line.specs.Values.{said, said_if}
use Rattle.bac_keep_command_line.specs.declared.fault.Fault.{Fault}
use Rattle.bac_keep_command_line.specs.declared.printing.BehindRouter.{BehindRouter}
use Rattle.bac_keep_command_line.specs.declared.printing.Device.{Device}

-- a place behind a router: its network, and the address there in hexadecimal digits
pub record BehindAs : Type 0 where
  pub network : ℕ
  pub address : List ℕ

-- the same of a value of the program
abbrev pub behind_as : BehindRouter → BehindAs
behind_as b = record { network = b.network; address = string_bytes b.address }

-- a device as an archive has its place, and the instance of a log of it; none: each
pub record DeviceAs : Type 0 where
  pub address : List ℕ
  pub behind : Option BehindAs
  pub instance : Option ℕ

-- the same of a value of the program
abbrev pub device_as : Device → DeviceAs
device_as d = record {
  address = string_bytes d.address;
  behind = option_map behind_as d.behind;
  instance = d.instance;
}

-- a place as an archive has it
abbrev pub behind_at : Place → BehindAs
behind_at place = record { network = place.net; address = encode_lower place.address }

-- A device that is named, and a log of it. The first of these that is wrong is the fault: its address, the place behind
-- a router, and the instance.
unfoldable pub device_at : Kept → (address : Text) → Result DeviceAs Fault
device_at kept address = do
  octets ← said address_in Address address
  route ← route_said kept.dnet (route_in kept.dnet kept.dadr)
  instance ← said_if (number_in 0 4194303) Instance kept.instance
  Ok (record { address = address_text octets; behind = option_map behind_at route; instance = instance })

-- the same where one may be named
abbrev pub device_if : Kept → Option Text → Result (Option DeviceAs) Fault
device_if kept None = Ok None
device_if kept (Some address) = result_map Some (device_at kept address)

-- the device that the words name, if they name one
abbrev pub device_in : Kept → Result (Option DeviceAs) Fault
device_in kept = device_if kept kept.address
