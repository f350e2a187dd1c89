-- What the words of `bac keep` ask for. Read `order_in` and `stop_in`.
use Rattle.std.specs.Prelude.{ℕ, ◌||◌, max, Bool, true, if◌then◌else◌, List, [], ◌∷◌, map, Option, is_some}
use Rattle.std.specs.Prelude.{Result, Ok, Err}
use Rattle.std.specs.String.{string_bytes}
use Rattle.bac_wire.specs.Chain.{◌>>=◌}
use Rattle.bac_wire.specs.Stamp.{CivilTime}
use Rattle.bac_device_poller.specs.Naming.{moment_text}
use Rattle.bac_ports.specs.Sockets.{own_address}
use Rattle.bac_plan.specs.declared.options.Options.{Options}
use Rattle.bac_command_line.specs.declared.group.Group.{Group}
use Rattle.bac_command_line.specs.declared.job.Keep.{Keep}
use Rattle.bac_command_line.specs.declared.job.KeepOptions.{KeepOptions}
use Rattle.bac_command_line.specs.declared.word.Word.TheVariants.{Address, Stop}
use Rattle.bac_keep_command_line.specs.Devices.{NamedAs, all_in, named_as, named_in}
use Rattle.bac_keep_command_line.specs.Options.{fetching_in, sending_in}
use Rattle.bac_keep_command_line.specs.declared.fault.Fault.{Fault}
use Rattle.bac_keep_command_line.specs.declared.fault.Fault.TheVariants.{BadValue}
use Rattle.bac_keep_command_line.specs.declared.options.Fetching.{Fetching}
use Rattle.bac_keep_command_line.specs.declared.options.Sending.{Sending}
use Rattle.bac_keep_command_line.specs.declared.orders.Order.{Order}

-- how devices are polled: how many requests may be open that were sent once, at one host, and at all, and how long each
-- is waited for; how many records one asks for, and behind how many replies with records a log ends; how often it is
-- repeated; whether clocks are asked for; and this moment
pub record OptionsAs : Type 0 where
  pub at_once : ℕ
  pub at_host : ℕ
  pub most : ℕ
  pub wait_ms : ℕ
  pub records : ℕ
  pub steps : Option ℕ
  pub retries : ℕ
  pub clocks : Bool
  pub begun : CivilTime

-- the same of a value of the program
abbrev pub options_as : Options → OptionsAs
options_as o = record {
  at_once = o.limits.at_once;
  at_host = o.limits.at_host;
  most = o.limits.most;
  wait_ms = o.limits.wait_ms;
  records = o.records;
  steps = o.steps;
  retries = o.retries;
  clocks = o.clocks;
  begun = o.begun;
}

-- What is asked for: an archive that is made at this moment, devices and logs that are named, how they are polled, our
-- own address, and how many seconds a file that is in use is waited for.
pub record OrderAs : Type 0 where
  pub moment : List ℕ
  pub named : List NamedAs
  pub options : OptionsAs
  pub local : List ℕ
  pub wait : ℕ

-- the same of a value of the program
abbrev pub order_as : Order → OrderAs
order_as o = record {
  moment = string_bytes o.run.moment;
  named = map named_as o.run.named.items;
  options = options_as o.run.options;
  local = o.local;
  wait = o.wait;
}

-- devices are polled so, from this moment on; of the requests that may be open 0 stands for 1
abbrev pub options_for : (at_once : ℕ) → Sending → Fetching → CivilTime → OptionsAs
options_for at_once sending fetching begun = record {
  at_once = max at_once 1;
  at_host = 4;
  most = 1024;
  wait_ms = sending.wait_ms;
  records = fetching.records;
  steps = fetching.steps;
  retries = sending.retries;
  clocks = true;
  begun = begun;
}

-- a way behind a router is one to a device: without a device there is none
abbrev pub way_to : List Group → KeepOptions → Result (Unit {0}) Fault
way_to [] options = if is_some options.dnet || is_some options.dadr then Err (BadValue Address) else Ok tt
way_to (group ∷ groups) options = Ok tt

-- The words ask for a run that begins at this moment, or this one of them is wrong.
unfoldable pub order_in : Keep → CivilTime → Result OrderAs Fault
order_in keep begun = do
  way ← way_to keep.groups keep.options
  named ← all_in keep.options keep.groups
  sending ← sending_in keep.options
  fetching ← fetching_in keep.options
  Ok (record {
    moment = moment_text begun;
    named = named;
    options = options_for keep.at_once sending fetching begun;
    local = own_address sending.local;
    wait = keep.wait;
  })

-- the one device of `--stop`, and which logs of it
abbrev pub stop_of : KeepOptions → List Group → Result (List NamedAs) Fault
stop_of options [] = Err (BadValue Stop)
stop_of options (group ∷ []) = named_in options group >>= λ named. Ok (named ∷ [])
stop_of options (group ∷ other ∷ groups) = Err (BadValue Stop)

-- what the words of `--stop` stop, or the one that is wrong
abbrev pub stop_in : Keep → Result (List NamedAs) Fault
stop_in keep = stop_of keep.options keep.groups
