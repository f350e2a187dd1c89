use Rattle.std.proofs.Common.{◌≡◌, drop}
use Rattle.bac_keep_command_line.specs.Devices.{logs_in}
use Rattle.bac_keep_command_line.proofs.Gathering.{ahead}
use Rattle.bac_keep_command_line.proofs.devices.logs_in.Given as goal

abbrev pub invariant-loop-text : goal.invariant-loop-text
invariant-loop-text l =
    logs_in l.options l.group l.texts ≡ ahead l.instances.items (logs_in l.options l.group (drop l.text-index l.texts))
