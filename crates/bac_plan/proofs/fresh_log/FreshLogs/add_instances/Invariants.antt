use Rattle.std.proofs.Common.{◌≡◌, drop}
use Rattle.bac_plan.specs.Fresh.{with_instances}
use Rattle.bac_plan.proofs.fresh_log.FreshLogs.add_instances.Given as goal

abbrev pub invariant-loop-instance : goal.invariant-loop-instance
invariant-loop-instance l = with_instances l.logs l.device l.self (drop l.instance-index l.instances) ≡ with_instances l.logs l.device l.initial.self l.instances
