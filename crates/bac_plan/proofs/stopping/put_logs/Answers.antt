use Rattle.std.proofs.Common.{map}
use Rattle.bac_device_poller.specs.Puts.{put_as}
use Rattle.bac_plan.specs.Stopping.{log_stop}
use Rattle.bac_plan.proofs.Shares.{flat_taken}
use Rattle.bac_plan.proofs.stopping.put_logs.Goals as goal

pub loop-log-preserved : goal.loop-log-preserved
loop-log-preserved c =
    flat_taken (log_stop c.args.named.now c.args.devices.now) (map put_as c.args.puts.now.items) (map put_as c.loop-log.puts.items)
    (map put_as c.put_log.new.puts.items) c.args.logs.now c.loop-log.log-index c.log-item.result c.loop-log-test.true c.log-item.is
    c.in_ok-put_log.ensures c.loop-log.invariant
