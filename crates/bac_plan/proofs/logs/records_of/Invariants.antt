use Rattle.std.proofs.Common.{◌≡◌, map, take}
use Rattle.bac_plan.specs.Logs.{record_of}
use Rattle.bac_plan.proofs.logs.records_of.Given as goal

abbrev pub invariant-loop-log : goal.invariant-loop-log
invariant-loop-log l = l.records.items ≡ map (record_of l.called l.told) (take l.log-index l.logs)
