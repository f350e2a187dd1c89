use Rattle.std.proofs.Common.{◌≡◌, ◌++◌, map, take}
use Rattle.std.specs.List.{flat_map}
use Rattle.bac_device_poller.specs.Puts.{put_as}
use Rattle.bac_device_poller.specs.Rows.{device_as}
use Rattle.bac_plan.specs.Changes.{device_change}
use Rattle.bac_plan.proofs.changes.put_devices.Given as goal

abbrev pub invariant-loop-device : goal.invariant-loop-device
invariant-loop-device l = map put_as l.puts.items ≡ map put_as l.initial.puts.items ++ flat_map (λ d. device_change l.named (device_as d)) (take l.device-index l.devices)
