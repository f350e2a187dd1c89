use Rattle.bac_device_poller.proofs.WaitedFirst.{waits_once_first}
use Rattle.bac_device_poller.proofs.WaitedOnce.{waits_once}
use Rattle.bac_device_poller.proofs.laws.waits_once.Goals as goal

pub returns-clause-once : goal.returns-clause-once
returns-clause-once c = waits_once

pub returns-clause-first : goal.returns-clause-first
returns-clause-first c = waits_once_first
