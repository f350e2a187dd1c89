use Rattle.std.proofs.Common.{◌≡◌, ◌++◌, map, take}
use Rattle.std.specs.List.{flat_map}
use Rattle.bac_device_poller.specs.Puts.{put_as}
use Rattle.bac_device_poller.specs.Rows.{device_as}
use Rattle.bac_plan.specs.Stopping.{device_stop}
use Rattle.bac_plan.proofs.stopping.put_devices.Given as goal

abbrev pub invariant-loop-device : goal.invariant-loop-device
invariant-loop-device l = map put_as l.puts.items ≡ map put_as l.initial.puts.items ++ flat_map (λ d. device_stop l.named (device_as d)) (take l.device-index l.devices)
