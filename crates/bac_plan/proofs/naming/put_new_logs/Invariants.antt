use Rattle.std.proofs.Common.{◌≡◌, ◌++◌, map, take}
use Rattle.bac_device_poller.specs.Puts.{put_as}
use Rattle.bac_plan.specs.Naming.{new_log_put}
use Rattle.bac_plan.proofs.naming.put_new_logs.Given as goal

abbrev pub invariant-loop-log : goal.invariant-loop-log
invariant-loop-log l = map put_as l.puts.items ≡ map put_as l.initial.puts.items ++ map new_log_put (take l.log-index l.logs)
