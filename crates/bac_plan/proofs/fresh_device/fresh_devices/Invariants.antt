use Rattle.std.proofs.Common.{◌≡◌, [], drop}
use Rattle.bac_plan.specs.Fresh.{with_devices}
use Rattle.bac_plan.proofs.fresh_device.fresh_devices.Given as goal

-- those that are left make of what there is what all of them make
abbrev pub invariant-loop-one : goal.invariant-loop-one
invariant-loop-one l = with_devices l.named l.devices l.fresh (drop l.one-index l.named) ≡ with_devices l.named l.devices (record { devices = []; next = l.next }) l.named
