use Rattle.bac_command_line.proofs.Hosting.{one_more}
use Rattle.bac_command_line.proofs.said.Hosts.push_to.Goals as goal

pub loop-k-preserved : goal.loop-k-preserved
loop-k-preserved c =
    let e = one_more c.args.self.now.address c.loop-k.list.items c.args.self.now.first c.loop-k.k c.args.self.now.count c.loop-k-test.true in
    cc (e, c.in_ok-push.ensures.items)
