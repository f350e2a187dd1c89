use Rattle.bac_poll_laws.proofs.Asks.{asks_once}
use Rattle.bac_poll_laws.proofs.laws.asks_once_more.Goals as goal

pub returns : goal.returns
returns c = asks_once
