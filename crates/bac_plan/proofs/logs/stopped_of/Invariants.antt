use Rattle.std.proofs.Common.{◌≡◌, map, take}
use Rattle.std.specs.List.{filter}
use Rattle.bac_plan.specs.Logs.{is_stopped, trend_log}
use Rattle.bac_plan.proofs.logs.stopped_of.Given as goal

abbrev pub invariant-loop-log : goal.invariant-loop-log
invariant-loop-log l = l.objects.items ≡ map trend_log (filter is_stopped (take l.log-index l.logs))
