use Rattle.bac_device_poller.proofs.Silence.{ended_are_out}
use Rattle.bac_device_poller.proofs.SilentRuns.{polls_once}
use Rattle.bac_device_poller.proofs.laws.polls_once.Goals as goal

pub returns-clause-ended : goal.returns-clause-ended
returns-clause-ended c = ended_are_out

pub returns-clause-once : goal.returns-clause-once
returns-clause-once c = polls_once
