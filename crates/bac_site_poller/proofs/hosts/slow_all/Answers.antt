use Rattle.std.proofs.Common.{◌<◌, length, arith}
use Rattle.bac_site_poller.specs.Hosts.{slowed_at}
use Rattle.bac_site_poller.proofs.HostLists.{one_more}
use Rattle.bac_site_poller.proofs.hosts.slow_all.Goals as goal

pub loop-host-preserved : goal.loop-host-preserved
loop-host-preserved c =
    let below : c.loop-host.host-index < length c.args.hosts.now = omega arith in
    one_more (slowed_at c.args.peer c.args.limit) c.args.hosts.now c.loop-host.hosts c.loop-host.host-index c.slow_at.new.self _ below c.loop-host.invariant c.slow_at.ensures
