use Rattle.std.proofs.Common.{◌≡◌, drop, map}
use Rattle.bac_keep_command_line.specs.Devices.{all_in, named_as}
use Rattle.bac_keep_command_line.proofs.Gathering.{ahead}
use Rattle.bac_keep_command_line.proofs.devices.all_in.Given as goal

abbrev pub invariant-loop-group : goal.invariant-loop-group
invariant-loop-group l =
    all_in l.options l.groups ≡ ahead (map named_as l.all.items) (all_in l.options (drop l.group-index l.groups))
