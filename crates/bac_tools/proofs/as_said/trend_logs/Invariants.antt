use Rattle.std.proofs.Common.{◌≡◌, map, take}
use Rattle.bac_tools.specs.Run.{trend_log}
use Rattle.bac_tools.proofs.as_said.trend_logs.Given as goal

abbrev pub invariant-loop-instance : goal.invariant-loop-instance
invariant-loop-instance l = l.logs.items ≡ map trend_log (take l.instance-index l.instances)
