use Rattle.std.proofs.Common.{◌≡◌, false, take}
use Rattle.std.specs.List.{list_any}
use Rattle.bac_device_poller.specs.Rows.{device_as}
use Rattle.bac_plan.specs.Named.{is_at}
use Rattle.bac_plan.proofs.fresh_device.has_place.Given as goal

abbrev pub invariant-loop-device : goal.invariant-loop-device
invariant-loop-device l = list_any (λ d. is_at l.one (device_as d)) (take l.device-index l.devices) ≡ false
