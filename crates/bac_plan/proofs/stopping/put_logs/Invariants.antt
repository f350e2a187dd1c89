use Rattle.std.proofs.Common.{◌≡◌, ◌++◌, map, take}
use Rattle.std.specs.List.{flat_map}
use Rattle.bac_device_poller.specs.Puts.{put_as}
use Rattle.bac_plan.specs.Stopping.{log_stop}
use Rattle.bac_plan.proofs.stopping.put_logs.Given as goal

abbrev pub invariant-loop-log : goal.invariant-loop-log
invariant-loop-log l = map put_as l.puts.items ≡ map put_as l.initial.puts.items ++ flat_map (log_stop l.named l.devices) (take l.log-index l.logs)
