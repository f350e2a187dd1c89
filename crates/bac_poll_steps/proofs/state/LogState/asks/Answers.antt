use Rattle.bac_poll_steps.proofs.state.LogState.asks.Goals as goal

pub returns : goal.returns
returns c = c.asks.ensures c.args.self.now
