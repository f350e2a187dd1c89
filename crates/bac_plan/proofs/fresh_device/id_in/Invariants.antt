use Rattle.std.proofs.Common.{◌≡◌, drop}
use Rattle.bac_plan.specs.Fresh.{id_in}
use Rattle.bac_plan.proofs.fresh_device.id_in.Given as goal

abbrev pub invariant-loop-device : goal.invariant-loop-device
invariant-loop-device l = id_in l.one (drop l.device-index l.devices) ≡ id_in l.one l.devices
