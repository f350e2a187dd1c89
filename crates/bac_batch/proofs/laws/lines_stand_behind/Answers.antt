use Rattle.bac_batch.proofs.Inside.{lines_stand_behind}
use Rattle.bac_batch.proofs.laws.lines_stand_behind.Goals as goal

pub returns : goal.returns
returns g c = lines_stand_behind g.M.Machine.gives g.M.Machine.hears g.M.Machine.reads
