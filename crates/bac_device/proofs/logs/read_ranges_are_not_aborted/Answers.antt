use Rattle.bac_device.proofs.Unaborted.{ranges_answered, ranges_unaborted}
use Rattle.bac_device.proofs.logs.read_ranges_are_not_aborted.Goals as goal

pub returns-clause-never : goal.returns-clause-never
returns-clause-never c = ranges_unaborted

pub returns-clause-answered : goal.returns-clause-answered
returns-clause-answered c = ranges_answered
