use Rattle.std.proofs.Common.{◌≡◌, drop}
use Rattle.bac_plan.specs.Stopping.{missing_log}
use Rattle.bac_plan.proofs.stopping.missing_log.Given as goal

abbrev pub invariant-loop-instance : goal.invariant-loop-instance
invariant-loop-instance l = missing_log l.place l.id l.logs (drop l.instance-index l.instances) ≡ missing_log l.place l.id l.logs l.instances
