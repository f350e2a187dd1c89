use Rattle.std.proofs.Common.{◌<◌, length, arith}
use Rattle.bac_site_poller.specs.Hosts.{answered_at}
use Rattle.bac_site_poller.proofs.HostLists.{one_more}
use Rattle.bac_site_poller.proofs.hosts.answer_all.Goals as goal

pub loop-host-preserved : goal.loop-host-preserved
loop-host-preserved c =
    let below : c.loop-host.host-index < length c.args.hosts.now = omega arith in
    one_more (answered_at c.args.most c.args.peer) c.args.hosts.now c.loop-host.hosts c.loop-host.host-index c.answer_at.new.self _ below c.loop-host.invariant c.answer_at.ensures
