use Rattle.std.proofs.Common.{◌≡◌, [], replicate}
use Rattle.bac_plan.proofs.groups.no_logs.Given as goal

abbrev pub invariant-loop : goal.invariant-loop
invariant-loop l = l.groups.items ≡ replicate l.counter []
