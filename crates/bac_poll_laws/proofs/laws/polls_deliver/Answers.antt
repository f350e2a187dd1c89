use Rattle.bac_poll_laws.proofs.Polls.{delivers}
use Rattle.bac_poll_laws.proofs.laws.polls_deliver.Goals as goal

pub returns : goal.returns
returns c = delivers
