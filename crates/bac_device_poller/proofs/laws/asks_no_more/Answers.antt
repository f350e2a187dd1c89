use Rattle.bac_device_poller.proofs.Silence.{ends_as_told}
use Rattle.bac_device_poller.proofs.SilentRuns.{asks_no_more}
use Rattle.bac_device_poller.proofs.laws.asks_no_more.Goals as goal

pub returns-clause-ends : goal.returns-clause-ends
returns-clause-ends c = ends_as_told

pub returns-clause-ended : goal.returns-clause-ended
returns-clause-ended c = asks_no_more
