use Rattle.std.proofs.Common.{take}
use Rattle.std.specs.List.{AllZip, filter}
use Rattle.bac_plan.specs.Logs.{IsTask, is_asked}
use Rattle.bac_plan.proofs.logs.tasks_of.Given as goal

abbrev pub invariant-loop-log : goal.invariant-loop-log
invariant-loop-log l = AllZip (IsTask l.told) (filter is_asked (take l.log-index l.logs)) l.tasks.items
