use Rattle.bac_poll_steps.proofs.state.LogState.ends.Goals as goal

pub returns : goal.returns
returns c = c.ends.ensures c.args.self.now
