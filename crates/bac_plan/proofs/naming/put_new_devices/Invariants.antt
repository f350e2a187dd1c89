use Rattle.std.proofs.Common.{◌≡◌, ◌++◌, map}
use Rattle.bac_device_poller.specs.Puts.{put_as}
use Rattle.bac_device_poller.specs.Rows.{device_as}
use Rattle.bac_plan.specs.Naming.{new_device_put}
use Rattle.bac_plan.proofs.naming.put_new_devices.Given as goal

abbrev pub invariant-loop-row : goal.invariant-loop-row
invariant-loop-row l = map put_as l.puts.items ≡ map put_as l.initial.puts.items ++ map (λ d. new_device_put (device_as d)) l.yielded
