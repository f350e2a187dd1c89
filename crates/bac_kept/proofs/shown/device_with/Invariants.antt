use Rattle.std.proofs.Common.{◌≡◌, drop}
use Rattle.bac_kept.specs.Shown.{device_with}
use Rattle.bac_kept.proofs.shown.device_with.Given as goal

abbrev pub invariant-loop-device : goal.invariant-loop-device
invariant-loop-device l = device_with (drop l.device-index l.devices) l.id ≡ device_with l.devices l.id
