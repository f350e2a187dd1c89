use Rattle.bac_device.proofs.Runs.{datagrams_left, runs_joined}
use Rattle.bac_device.proofs.laws.runs_are_joined.Goals as goal

pub returns-clause-joined : goal.returns-clause-joined
returns-clause-joined c = runs_joined

pub returns-clause-datagrams : goal.returns-clause-datagrams
returns-clause-datagrams c = datagrams_left
