use Rattle.std.proofs.Common.{◌≡◌, [], drop, map}
use Rattle.bac_device_poller.specs.Rows.{device_as}
use Rattle.bac_plan.specs.Fresh.{with_logs}
use Rattle.bac_plan.proofs.fresh_log.fresh_logs.Given as goal

abbrev pub invariant-loop-one : goal.invariant-loop-one
invariant-loop-one l = with_logs l.devices (map device_as l.fresh) l.logs l.made (drop l.one-index l.named) ≡ with_logs l.devices (map device_as l.fresh) l.logs (record { logs = []; next = l.next }) l.named
