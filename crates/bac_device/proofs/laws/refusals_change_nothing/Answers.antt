use Rattle.bac_device.proofs.History.{refused, no_write}
use Rattle.bac_device.proofs.laws.refusals_change_nothing.Goals as goal

pub returns-clause-refused : goal.returns-clause-refused
returns-clause-refused c = refused

pub returns-clause-other : goal.returns-clause-other
returns-clause-other c = no_write
