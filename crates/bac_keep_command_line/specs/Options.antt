-- How devices are asked, by the options of `bac keep`. What is left out is as `bac log` has it.
use Rattle.std.specs.Prelude.{Option, None, Some, Result, Ok, Err}
use Rattle.clap.specs.Words.{Text}
use Rattle.bac_apdu.specs.Npdu.{Place}
use Rattle.bac_wire.specs.Chain.{◌>>=◌}
use Rattle.bac_command_line.specs.Addresses.{address_in}
use Rattle.bac_command_line.specs.Numbers.{number_in}
use Rattle.bac_command_line.specs.Rows.{route_in}
use Rattle.bac_command_line.specs.declared.group.Way.{Way}
use Rattle.bac_command_line.specs.declared.job.KeepOptions.{KeepOptions}
use Rattle.bac_command_line.specs.declared.word.Word.{Word}
use Rattle.bac_command_line.specs.declared.word.Word.TheVariants.{Local, Records, Retries, Steps, Timeout}
use Rattle.bac_keep_command_line.specs.Values.{said_if, said_or, wrong}
use Rattle.bac_keep_command_line.specs.declared.fault.Fault.{Fault}
use Rattle.bac_keep_command_line.specs.declared.options.Fetching.{Fetching}
use Rattle.bac_keep_command_line.specs.declared.options.Sending.{Sending}

-- our own address; 1 to 60,000 milliseconds for which a reply is waited for; 0 to 10 repeats of a request
unfoldable pub sending_in : KeepOptions → Result Sending Fault
sending_in options = do
  local ← said_if address_in Local options.local
  wait_ms ← said_or 3000 (number_in 1 60000) Timeout options.timeout
  retries ← said_or 3 (number_in 0 10) Retries options.retries
  Ok (record { local = local; wait_ms = wait_ms; retries = retries })

-- after how many replies with records a log ends; 1 to 100 records that a request asks for
unfoldable pub fetching_in : KeepOptions → Result Fetching Fault
fetching_in options = do
  steps ← said_if (number_in 0 4294967295) Steps options.steps
  records ← said_or 100 (number_in 1 100) Records options.count
  Ok (record { steps = steps; records = records })

-- the place behind a router, or which of the two texts is wrong; of these the network alone is a number
abbrev pub route_said : Option Text → Result (Option Place) Word → Result (Option Place) Fault
route_said net (Ok route) = Ok route
route_said net (Err w) = Err (wrong w net)

-- the place of a device behind a router: its own way goes before that of the options
abbrev pub way_in : KeepOptions → Option Way → Result (Option Place) Fault
way_in options None = route_said options.dnet (route_in options.dnet options.dadr)
way_in options (Some way) = route_said (Some way.dnet) (route_in (Some way.dnet) (Some way.dadr))
