use Rattle.bac_device_poll.proofs.logs.ended.Goals as goal

pub returns : goal.returns
returns c = c.ends.ensures c.args.poll.now
