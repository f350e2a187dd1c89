use Rattle.std.proofs.Common.{◌≡◌, drop}
use Rattle.bac_plan.specs.Changes.{device_of}
use Rattle.bac_keeper.proofs.lines.device_of.Given as goal

abbrev pub invariant-loop-device : goal.invariant-loop-device
invariant-loop-device l = device_of l.id (drop l.device-index l.devices) ≡ device_of l.id l.devices
